use Rattle.std.proofs.Common.{◌+◌, ◌∙◌, ap, arith, slice_index}
use Rattle.knit_base.specs.Yarns.{contains_carrier}
use Rattle.tally_tree.specs.Counting.{one_if}
use Rattle.tally_tree.proofs.Carriers.{in_mask}
use Rattle.tally_tree.proofs.lines.count_yarns.Goals as goal

pub returns : goal.returns
returns c = record {
  as_long = c.loop-c.invariant.as_long;
  each = λ k below.
      c.loop-c.invariant.done k (omega arith)
      ∙ ap (λ set. slice_index c.args.with.now k + one_if (contains_carrier set (record { 0 = k }))) c.mask-set.ensures
      ∙ ap (λ b. slice_index c.args.with.now k + one_if b) (in_mask c.args.yarns.now k);
}
