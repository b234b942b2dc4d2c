-- A line of which only a front is kept asks for what the whole line asks for, without the carriage return at its end in both.
use Rattle.std.proofs.Common.{◌≡◌, ℕ, suc, ◌+◌, ◌<◌, ◌≤◌, ◌==◌, Bool, true, false, cond}
use Rattle.std.proofs.Common.{nat_le, List, [], ◌∷◌, length, take, ap, ◌∙◌, refl, sym, arith}
use Rattle.std.proofs.lemmas.List.{length-take-le, take_all}
use Rattle.knit_base.specs.Lines.{without_return}
use Rattle.knit_ports.specs.Ears.{kept_front, kept_limit}
use Rattle.script_reader.specs.Hearing.{Hearing, heard}
use Rattle.script_reader.proofs.Hearings.{line-cut}

-- a line without the carriage return at its end is a front of it, which lacks one byte at most
pub record IsFront (line front : List ℕ) : Type 0 where
  pub count : ℕ
  pub long : length line ≤ count + 1
  pub is : front ≡ take count line

pub return_front : (line : List ℕ) → IsFront line (without_return line)
return_front [] = record { count = 0; long = omega arith; is = refl }
return_front (byte ∷ []) = go (byte == 13)
  where
    go : (ends : Bool) → IsFront (byte ∷ []) (cond ends [] (byte ∷ []))
    go true = record { count = 0; long = omega arith; is = refl }
    go false = record { count = 1; long = omega arith; is = refl }
return_front (byte ∷ next ∷ bytes) =
    let rest = return_front (next ∷ bytes) in
    let long = rest.long in
    record { count = suc rest.count; long = omega (arith, long); is = ap (λ (l : List ℕ). byte ∷ l) rest.is }

-- a line of over 4,097 bytes is heard as it is without the carriage return at its end
pub return_heard : (h : Hearing) (number : ℕ) (line : List ℕ) → 4097 < length line
    → heard h number (without_return line) ≡ heard h number line
return_heard h number line long =
    let front = return_front line in
    let near = front.long in
    ap (heard h number) front.is ∙ line-cut h number front.count line (omega (arith, near, long))

pub kept_heard : (h : Hearing) (number : ℕ) (line : List ℕ)
    → heard h number (without_return (kept_front line)) ≡ heard h number (without_return line)
kept_heard h number line = cut (nat_le (length line) kept_limit) refl
  where
    cut : (fits : Bool) → nat_le (length line) kept_limit ≡ fits
        → heard h number (without_return (kept_front line)) ≡ heard h number (without_return line)
    cut true e = ap (λ (l : List ℕ). heard h number (without_return l)) (take_all kept_limit line (grind arith))
    cut false e =
        let longer : kept_limit ≤ length line = grind arith in
        let count : length (kept_front line) ≡ kept_limit = length-take-le kept_limit line longer in
        return_heard h number (kept_front line) (omega (arith, count))
        ∙ line-cut h number kept_limit line (omega arith)
        ∙ sym (return_heard h number line (omega (arith, longer)))
