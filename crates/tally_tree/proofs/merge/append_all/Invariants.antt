use Rattle.std.proofs.Common.{◌≡◌, ◌++◌, take}
use Rattle.std.specs.Prelude.{vec_capacity}
use Rattle.tally_tree.proofs.merge.append_all.Given as goal

abbrev pub invariant-loop-n : goal.invariant-loop-n
invariant-loop-n l = (l.out.items ≡ l.fn.out.items ++ take l.n-index l.needles) × (vec_capacity l.out ≡ vec_capacity l.fn.out)
