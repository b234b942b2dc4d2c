use Rattle.std.proofs.Common.{arith, ◌∙◌, sym}
use Rattle.tally_examples.proofs.SmallNumbers.{small_add_up}
use Rattle.tally_examples.proofs.tests.ranges.sum_of.Goals as goal

pub merge-requires-clause-fit : goal.merge-requires-clause-fit
merge-requires-clause-fit g c =
    let a = c.is_small.ensures in
    let b = c.is_small-2.ensures in
    let is_a = c.if-not-is_small.false in
    let is_b = c.if-not-is_small-2.false in
    record {
      carriers = a.carriers is_a ∙ sym (b.carriers is_b);
      lines = omega (arith, a.lines is_a, b.lines is_b);
      with_fit = small_add_up c.args.a.now.with.items c.args.b.now.with.items (a.with_each is_a) (b.with_each is_b);
      ops_fit = small_add_up c.args.a.now.ops c.args.b.now.ops (a.ops is_a) (b.ops is_b);
    }
