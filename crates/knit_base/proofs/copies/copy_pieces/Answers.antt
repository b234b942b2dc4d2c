use Rattle.std.proofs.Common.{rules, ap, ◌∙◌}
use Rattle.knit_base.proofs.Copied.{copied_more}
use Rattle.knit_base.specs.Lines.{span_bytes}
use Rattle.knit_base.proofs.copies.copy_pieces.Goals as goal

pub loop-span-preserved : goal.loop-span-preserved
loop-span-preserved c = record {
  so_far =
      copied_more _ _ _ _ _ _ _ _ _ (record { start = 0; end = 0 }) _ c.loop-span.invariant.so_far c.loop-span-test.true c.in_ok-place.ensures.grown c.in_ok-place.ensures.within
      (c.in_ok-place.ensures.same ∙ ap (span_bytes c.args.bytes.now) c.behind_first-wanted.ensures) c.push_reserved.ensures.items;
  room = search rules;
}
