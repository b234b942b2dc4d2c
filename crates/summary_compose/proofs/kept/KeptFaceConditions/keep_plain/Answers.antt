use Rattle.std.proofs.Common.{rules, ap, ◌∙◌, ◌∷◌, ◌++◌, [], List}
use Rattle.face_data.specs.Conditions.{ask_of}
use Rattle.face_data.specs.Summaries.{AskedCondition}
use Rattle.summary_compose.proofs.Checks.{one_kept, one_named}
use Rattle.summary_compose.proofs.kept.KeptFaceConditions.keep_plain.Goals as goal

pub invariant_of-self : goal.invariant_of-self
invariant_of-self c =
    one_named c.self.inside.checks.items _ c.self.inside.names.items (record { fault = c.args.fault; cond = c.args.cond }) c.self.invariant c.push_reserved.ensures.items c.requires.nameless

pub returns-clause-checks : goal.returns-clause-checks
returns-clause-checks c =
    one_kept c.self.inside.checks.items _ c.self.inside.names.items (record { fault = c.args.fault; cond = c.args.cond }) c.push_reserved.ensures.items c.requires.nameless
    ∙ ap (λ (checks : List AskedCondition). checks ++ record { fault = c.args.fault; ask = ask_of [] c.args.cond } ∷ []) (search rules)
