use Rattle.std.proofs.Common.{◌≡◌, ◌∷◌, ◌∙◌, [], List, ℕ, map, ap, refl}
use Rattle.std.proofs.lemmas.Result.{IfOk-weaker}
use Rattle.block_summary.specs.declared.prepared.Prepared.{Prepared}
use Rattle.edit_book.specs.declared.reply.Again.{Again}
use Rattle.edit_book.proofs.sessions.again.summarised.Goals as goal

texts_in : (again : List Again) → map (λ (one : Again). one.prepared.text) again ≡ map (λ (p : Prepared). p.text) (map (λ (one : Again). one.prepared) again)
texts_in [] = refl
texts_in (a ∷ again) = ap (λ (l : List (List (List ℕ))). a.prepared.text ∷ l) (texts_in again)

pub returns-in-Ok-clause-texts : goal.returns-in-Ok-clause-texts
returns-in-Ok-clause-texts g c = IfOk-weaker c.blocks_again.result _ _
    (λ again is. texts_in again ∙ ap (map (λ (p : Prepared). p.text)) is ∙ c.in-Ok.ensures.texts ∙ c.into_vec-texts.ensures.items ∙ c.in_ok-block_texts.ensures)
    c.blocks_again.ensures.summaries
