-- One segment more has its line raised.
use Rattle.std.proofs.Common.{◌∙◌, ap, set, sym}
use Rattle.std.proofs.lemmas.List.{length-set}
use Rattle.face_data.specs.declared.face.Seg.{Seg}
use Rattle.summary_compose.specs.Changes.{raised_seg}
use Rattle.summary_compose.proofs.Parts.{past_end}
use Rattle.summary_compose.proofs.RaisedChanges.{raised_all, raised_more}
use Rattle.summary_compose.proofs.laid.put_raised.Goals as goal

pub returns-clause-items : goal.returns-clause-items
returns-clause-items c = raised_all (raised_seg c.args.lines) c.args.more.now c.loop-i.segs.items c.loop-i.i c.loop-i-test.false c.loop-i.invariant.items

pub loop-i-preserved : goal.loop-i-preserved
loop-i-preserved c = record {
  items = raised_more (raised_seg c.args.lines) c.args.more.now c.loop-i.segs.items _ c.loop-i.i past_end c.loop-i-test.true c.loop-i.invariant.items
      (ap (λ (s : Seg). set c.loop-i.segs.items c.loop-i.i (raised_seg c.args.lines s)) (sym c.in-New.is));
  size = length-set c.loop-i.segs.items c.loop-i.i _ ∙ c.loop-i.invariant.size;
  capacity = c.loop-i.invariant.capacity;
}
