-- The first line feed of bytes.
use Rattle.std.proofs.Common.{◌≡◌, ℕ, suc, ◌+◌, ◌<◌, List, ◌∷◌, ◌++◌, length, take, drop, get_or, MatchOption, Option, None, Some, ap, ◌∙◌, sym, arith}
use Rattle.std.proofs.Math.Seq.{split_at}
use Rattle.std.proofs.lemmas.Bool.{eqb-true}
use Rattle.std.proofs.lemmas.List.{get_or-take, get_or_default, length-take}
use Rattle.knit_base.specs.Lines.{HasNoLineEnd}
use Rattle.knit_ports.specs.Ears.{IsFirstFeed}
use Rattle.memchr.specs.Find.{IsFirstByte, is_byte}

-- what a search for a line feed tells
pub feed_found : (bytes : List ℕ) (place : Option ℕ) → IsFirstByte (is_byte 10) bytes place
    → MatchOption place (HasNoLineEnd bytes) (IsFirstFeed bytes)
feed_found bytes None none = λ k d below e.
    none k (omega arith) below (ap (is_byte 10) {x = get_or bytes k 0} (get_or_default bytes k 0 d below ∙ e))
feed_found bytes (Some n) found =
    let next : suc n ≡ n + 1 = omega arith in
    record {
      within = found.0.high;
      one = λ k d below e.
          let before : k < n = omega (arith, below, length-take n bytes) in
          found.0.before k (omega arith) before
          (ap (is_byte 10) (sym (get_or-take n bytes k 0 before) ∙ get_or_default (take n bytes) k 0 d below ∙ e));
      parted = split_at bytes n 0 found.0.high
          ∙ ap (λ (byte : ℕ). take n bytes ++ byte ∷ drop (suc n) bytes) (eqb-true (get_or bytes n 0) 10 found.1)
          ∙ ap (λ (k : ℕ). take n bytes ++ 10 ∷ drop k bytes) next;
    }
