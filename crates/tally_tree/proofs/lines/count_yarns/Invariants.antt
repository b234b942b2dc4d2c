use Rattle.std.proofs.Common.{◌≡◌, ◌+◌, ◌<◌, ◌≤◌, ℕ, length, slice_index}
use Rattle.knit_base.specs.Yarns.{contains_carrier}
use Rattle.tally_tree.specs.Counting.{one_if}
use Rattle.tally_tree.proofs.lines.count_yarns.Given as goal

abbrev pub invariant-loop-c : goal.invariant-loop-c
invariant-loop-c l = record {
  as_long : length l.with ≡ length l.fn.with;
  done : (k : ℕ) → k < l.c → slice_index l.with k ≡ slice_index l.fn.with k + one_if (contains_carrier l.set (record { 0 = k }));
  rest : (k : ℕ) → l.c ≤ k → k < length l.with → slice_index l.with k ≡ slice_index l.fn.with k;
}
