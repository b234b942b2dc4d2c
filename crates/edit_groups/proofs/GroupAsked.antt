-- What the edits of a group ask, one after the other.
use Rattle.std.proofs.Common.{◌≡◌, ℕ, zero, suc, ◌<◌, Bool, true, List, [], ◌∷◌, ◌++◌, length, get_or, arith}
use Rattle.std.specs.List.{list_all}
use Rattle.edit_journal.specs.declared.edit.Entry.{Entry}
use Rattle.edit_journal.specs.declared.opening.Opening.{Opening}
use Rattle.edit_groups.specs.Groups.{AreFitEdits, IsFitEdit}
use Rattle.edit_groups.specs.declared.reply.GroupEdit.{GroupEdit}
use Rattle.edit_groups.proofs.GroupTold.{both_true}

-- what all have, the one at a place has
pub all_got : {A : Type 0} (p : A → Bool) (xs : List A) (i : ℕ) (x : A) → list_all p xs ≡ true → i < length xs → p (get_or xs i x) ≡ true
all_got p [] i x all within = absurd (omega arith)
all_got p (y ∷ xs) zero x all within = (both_true (p y) (list_all p xs) all).0
all_got p (y ∷ xs) (suc i) x all within = all_got p xs i x (both_true (p y) (list_all p xs) all).1 (omega arith)

pub fit_edits_more : (o : Opening) (journal : List Entry) (edits : List GroupEdit) (e : GroupEdit) → AreFitEdits o journal edits → IsFitEdit o journal e → AreFitEdits o journal (edits ++ e ∷ [])
fit_edits_more o journal [] e fit one = (one, tt)
fit_edits_more o journal (x ∷ edits) e fit one = (fit.0, fit_edits_more o journal edits e fit.1 one)
