use Rattle.face_data.specs.Conditions.Ask.{size_at_most}
use Rattle.block_summary.proofs.KeptConditions.{says_from}
use Rattle.block_summary.proofs.kept.KeptLineConditions.any_implies.Given as goal

abbrev pub invariant-loop-check : goal.invariant-loop-check
invariant-loop-check l = says_from l.self-inside.names.items l.check-items l.check-index (size_at_most l.needles l.most)
