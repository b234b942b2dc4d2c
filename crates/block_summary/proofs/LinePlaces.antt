-- What stands at the places of some lines of a text.
use Rattle.std.proofs.Common.{◌≡◌, ◌+◌, ◌-◌, ◌<◌, ◌≤◌, ℕ, List, Some, length, take, drop, get_or, slice_get, ap, ◌∙◌, arith}
use Rattle.std.specs.List.{slice_range}
use Rattle.std.proofs.lemmas.List.{get_or-drop, get_or-take, length-drop, length-take-le, take_rest}
use Rattle.std.proofs.lemmas.Option.{get_or_from_slice_get, slice_get-get_or}

-- how many lines there are
pub part_len : {X : Type 0} (xs : List X) (from to : ℕ) → to ≤ length xs → length (slice_range xs from to) ≡ to - from
part_len xs from to inside = length-take-le (to - from) (drop from xs) (omega (arith, length-drop from xs))

-- all lines
pub part_all : {X : Type 0} (xs : List X) (to : ℕ) → to ≡ length xs → slice_range xs 0 to ≡ xs
part_all xs to all = ap (λ n. take (n - 0) xs) all ∙ take_rest xs 0

-- the line at a place
pub part_at : {X : Type 0} (xs : List X) (from to i : ℕ) (x : X) → to ≤ length xs → from ≤ i → i < to → slice_get xs i ≡ Some x → slice_get (slice_range xs from to) (i - from) ≡ Some x
part_at xs from to i x inside begun before is =
    let back : from + (i - from) ≡ i = omega (arith, begun) in
    let same = get_or-take (to - from) (drop from xs) (i - from) x (omega (arith, begun, before)) ∙ get_or-drop from xs (i - from) x ∙ ap (λ k. get_or xs k x) back ∙ get_or_from_slice_get xs i x x is in
    slice_get-get_or (slice_range xs from to) (i - from) x (omega (arith, part_len xs from to inside, begun, before)) ∙ ap Some same
