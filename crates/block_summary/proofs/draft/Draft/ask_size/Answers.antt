use Rattle.std.proofs.Common.{rules, ◌∙◌, sym, subst, pos, ◌<ℤ◌, w16}
use Rattle.std.proofs.lemmas.Int.{to_z-of_z}
use Rattle.std.proofs.lemmas.Result.{IfOk-weaker}
use Rattle.block_summary.proofs.DraftSteps.{took_over, took_left}
use Rattle.block_summary.proofs.draft.Draft.ask_size.Goals as goal

pub returns-in-None-clause-asked : goal.returns-in-None-clause-asked
returns-in-None-clause-asked c rule is =
    took_over c.args.self.now c.args.ask.now rule (subst (λ max. max <ℤ pos 0) (to_z-of_z w16 c.args.ask.now.max (search rules)) c.in-None.ensures) is

pub returns-in-Some-clause-asked : goal.returns-in-Some-clause-asked
returns-in-Some-clause-asked c =
    IfOk-weaker c.ask_entries.result _ _
    (λ goes took rule is.
    took_left c.args.self.now c.ask_entries.new.self c.args.ask.now rule c.as_slice.result.now c.in-Some.most goes (sym (to_z-of_z w16 c.args.ask.now.max (search rules)) ∙ c.in-Some.ensures) c.as_slice.ensures.items is took)
    c.ask_entries.ensures
