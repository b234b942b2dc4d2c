-- For which names of the header a text was prepared that is handed over.
use Rattle.std.proofs.Common.{◌≡◌, ◌≤◌, ℕ, Bool, true, false, cond, ◌==◌, List, [], ◌∷◌, length, Option, Some, None, IfSome, sym, subst, ap, ◌∙◌, refl}
use Rattle.std.proofs.lemmas.Bool.{eqb-true}
use Rattle.block_summary.specs.Prepared.{IsPreparedFor}
use Rattle.block_summary.specs.declared.prepared.Prepared.{Prepared}
use Rattle.edit_journal.specs.Documents.{Document, document_of, names_given}
use Rattle.edit_journal.specs.Entries.{head_id}
use Rattle.edit_journal.specs.declared.edit.Entry.{Entry}
use Rattle.edit_journal.specs.declared.opening.Opening.{Opening}
use Rattle.edit_journal.proofs.Known.{all_known}
use Rattle.edit_book.specs.Headers.{ArePreparedAgain, IsPreparedUnder}
use Rattle.edit_book.specs.Replies.{refused_head}
use Rattle.edit_book.specs.Turns.{AreFitAgain}
use Rattle.edit_book.specs.declared.reply.Again.{Again}
use Rattle.edit_book.specs.declared.reply.Reply.TheVariants.{Stale}

-- a stamp that nothing refuses is the header's
pub head_seen : (d : Document) (es : List Entry) (head : ℕ) → refused_head d es head ≡ None → d.header.stamp ≡ head
head_seen d es head free = go (d.header.stamp == head) refl free
  where
    go : (t : Bool) → (d.header.stamp == head) ≡ t → cond t None (Some (Stale (length es) head_id head d.header.stamp)) ≡ None → d.header.stamp ≡ head
    go true is h = eqb-true d.header.stamp head is
    go false is h = absurd (cc)

-- and a text that was prepared under it was prepared for the names of now
pub prepared_now : (o : Opening) (es : List Entry) (head : ℕ) (prepared : Prepared) → refused_head (document_of o es) es head ≡ None → IsPreparedUnder o es head prepared
    → IsPreparedFor o.setting.profile (document_of o es).header.names prepared
prepared_now o es head prepared free under =
    let given : names_given o es head ≡ Some (document_of o es).header.names = ap (names_given o es) (sym (head_seen (document_of o es) es head free)) ∙ (all_known o es).header in
    subst (λ (names : Option (List (List ℕ))). IfSome names (λ ns. IsPreparedFor o.setting.profile ns prepared)) given under

pub short_now : (o : Opening) (es : List Entry) (head : ℕ) (prepared : Prepared) → refused_head (document_of o es) es head ≡ None → IsPreparedUnder o es head prepared → length prepared.text ≤ 4096
short_now o es head prepared free under = (prepared_now o es head prepared free under).few

-- summaries that fit a turn were prepared so
pub fit_again : (o : Opening) (es : List Entry) (names : List (List ℕ)) (again : List Again) → AreFitAgain o es names again → ArePreparedAgain o es names again
fit_again o es names [] fit = tt
fit_again o es names (a ∷ again) fit = (
  subst (λ (found : Option (List (List ℕ))). IfSome found (λ text. (a.prepared.text ≡ text) × IsPreparedFor o.setting.profile names a.prepared)) (sym fit.0.given) (refl, fit.0.prepared_for),
  fit_again o es names again fit.1,
)
