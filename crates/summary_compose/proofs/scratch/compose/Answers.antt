use Rattle.std.proofs.Common.{◌∙◌, ap, sym, subst}
use Rattle.std.proofs.lemmas.Result.{IfOk-weaker}
use Rattle.std.specs.Prelude.{◌≤◌, ◌++◌, length}
use Rattle.face_data.specs.Goodness.{IsGood}
use Rattle.face_data.specs.Items.{items, most_items}
use Rattle.face_data.specs.Summaries.{Summary, summary_outcome}
use Rattle.summary_compose.proofs.scratch.compose.Goals as goal

pub returns-clause-runs_both : goal.returns-clause-runs_both
returns-clause-runs_both g c =
    IfOk-weaker c.of.result _ _ (λ face is s first. ap (λ (f : Summary). summary_outcome f s first) (is ∙ c.view.ensures.summary) ∙ c.compose_into.ensures.runs_both s first) c.of.ensures

pub returns-clause-good : goal.returns-clause-good
returns-clause-good g c =
    IfOk-weaker c.of.result _ _
    (λ face is carriers limit first second ga gb.
    subst (IsGood carriers limit (first ++ second)) (sym (is ∙ c.view.ensures.summary)) (c.compose_into.ensures.good carriers limit first second ga gb))
    c.of.ensures

pub returns-clause-bound : goal.returns-clause-bound
returns-clause-bound g c =
    IfOk-weaker c.of.result _ _
    (λ face is carriers limit known ga gb.
    subst (λ (f : Summary). items f ≤ most_items carriers limit (length known)) (sym (is ∙ c.view.ensures.summary)) (c.compose_into.ensures.bound carriers limit known ga gb))
    c.of.ensures
