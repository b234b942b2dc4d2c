use Rattle.std.proofs.Common.{rules, ◌≡◌, [], ◌∷◌, ◌++◌, List, sym, subst}
use Rattle.face_data.specs.Answers.ConditionAnswer.{asks}
use Rattle.face_data.specs.Composition.{answer_of_kept}
use Rattle.face_data.specs.Conditions.{ask_of}
use Rattle.face_data.specs.Summaries.{AskedCondition}
use Rattle.block_summary.proofs.FoundConditions.{plain_found}
use Rattle.block_summary.proofs.KeptConditions.{plain_kept, plain_unnamed}
use Rattle.block_summary.proofs.kept.KeptLineConditions.keep.Goals as goal

pub invariant_of-self-2 : goal.invariant_of-self-2
invariant_of-self-2 c =
    let inside = c.self.inside in
    let items : c.push.new.self.items ≡ inside.checks.items ++ record { fault = c.args.fault; cond = c.args.cond } ∷ [] = search rules in (
      plain_kept inside.names.items inside.checks.items c.push.new.self.items inside.digest c.note.new.self c.args.fault c.args.cond c.requires.nameless items (c.note.ensures inside.names.items)
          (subst (λ (kept : List AskedCondition). answer_of_kept kept (ask_of [] c.args.cond) ≡ asks (ask_of [] c.args.cond)) (sym c.self.view_is) c.requires.silent) (c.self.invariant).0,
      plain_found inside.names.items inside.checks.items c.push.new.self.items inside.chains.links (record { fault = c.args.fault; cond = c.args.cond })
          (plain_unnamed inside.names.items c.args.cond c.requires.nameless) items (c.self.invariant).1,
    )
