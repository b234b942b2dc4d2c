-- How many last needles two lists have together.
use Rattle.std.proofs.Common.{◌≡◌, ℕ, ◌+◌, ◌≤◌, ◌<◌, List, [], ◌∷◌, length, drop, get_or, sym, ap, ◌∙◌, arith}
use Rattle.std.specs.Result.{IsOk, OnOk}
use Rattle.std.specs.declared.result.Result.{Result}
use Rattle.std.specs.declared.result.Result.TheVariants.{Ok, Err}
use Rattle.std.proofs.lemmas.Bool.{false≢true}
use Rattle.std.proofs.lemmas.List.{drop_more}
use Rattle.std.specs.Prelude.{nat_lt}
use Rattle.knit_base.proofs.Places.{by_test}
use Rattle.carriage_model.specs.State.{same_carrier}
use Rattle.face_data.specs.declared.face.Last.{Last}
use Rattle.face_data.specs.Lasts.{lasts_of_both, put_last}

pub length_put : (hs : List Last) (l : Last) → length (put_last hs l) ≤ length hs + 1
length_put [] l = omega arith
length_put (h ∷ hs) l = by_test (same_carrier l.carrier h.carrier)
    (λ same. rw same (omega arith))
    (λ apart. rw apart (by_test (nat_lt l.carrier.0 h.carrier.0)
    (λ before. rw before (omega arith))
    (λ behind. rw behind (omega (arith, length_put hs l)))))

pub length_both : (first second : List Last) → length (lasts_of_both first second) ≤ length first + length second
length_both first [] = omega arith
length_both first (l ∷ ls) = omega (arith, length_both (put_last first l) ls, length_put first l)

-- what holds of a value that there is
pub ok_so : {T F : Type 0} {P : Type 0} (r : Result T F) → OnOk r P → IsOk r → P
ok_so (Ok x) h is = h
ok_so (Err e) h is = absurd (false≢true is)

-- one last needle more is put
pub put_more : (items : List Last) (i : ℕ) (d : Last) (old new : List Last) → i < length items → new ≡ put_last old (get_or items i d)
    → (lasts_of_both new (drop (i + 1) items) ≡ lasts_of_both old (drop i items)) × (length new + length (drop (i + 1) items) ≤ length old + length (drop i items))
put_more items i d old new within put =
    let next = drop_more items i d within in (
      ap (λ xs. lasts_of_both xs (drop (i + 1) items)) put ∙ sym (ap (lasts_of_both old) next),
      omega (arith, ap length next, ap length put, length_put old (get_or items i d)),
    )
