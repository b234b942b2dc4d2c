use Rattle.std.proofs.Common.{◌≡◌, ◌≤◌, [], ◌∷◌}
use Rattle.std.specs.Prelude.{replicate, vec_capacity}
use Rattle.tally_tree.proofs.tally.Tally.of_no_line.Given as goal

abbrev pub invariant-loop-c : goal.invariant-loop-c
invariant-loop-c l = (l.tally.lines ≡ 0) × (l.tally.with.items ≡ replicate l._c 0) × (l.carriers ≤ vec_capacity l.tally.with) × (l.tally.ops ≡ 0 ∷ 0 ∷ 0 ∷ 0 ∷ []) × (l.tally.needles.items ≡ [])
