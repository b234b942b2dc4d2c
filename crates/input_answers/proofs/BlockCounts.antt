-- How many blocks so many lines make.
use Rattle.std.proofs.Common.{◌≡◌, ℕ, ◌+◌, ◌-◌, ◌*◌, ◌/◌, ◌<◌, ap, sym, ◌∙◌, arith}
use Rattle.std.specs.Int.{div_ceil}
use Rattle.std.proofs.lemmas.Grind.{div_ceil_times}
use Rattle.std.proofs.lemmas.Nat.{div-mul-add}
use Rattle.input_answers.specs.Due.{blocks_of}

-- a quotient rounded up
pub blocks-ceil : (size count : ℕ) → 0 < size → div_ceil count size ≡ blocks_of size count
blocks-ceil size count some =
    let whole : ℕ = div_ceil count size in
    let bounds = div_ceil_times count size some in
    let rest : ℕ = count + (size - 1) - whole * size in
    let split : count + (size - 1) ≡ whole * size + rest = omega (arith, bounds.0, bounds.1, some) in
    sym (ap (λ n. n / size) split ∙ div-mul-add whole size rest (omega (arith, bounds.0, some)))
