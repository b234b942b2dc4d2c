use Rattle.std.proofs.Common.{◌≡◌, ◌<◌, List, length, length-drop, ◌∙◌, arith}
use Rattle.face_data.specs.declared.face.Last.{Last}
use Rattle.summary_compose.proofs.LastCounts.{ok_so, put_more}
use Rattle.summary_compose.proofs.joining.put_lasts.Goals as goal

pub loop-last-preserved : goal.loop-last-preserved
loop-last-preserved c =
    let items : List Last = c.args.b.now.lasts.now in
    let old : List Last = c.loop-last.lasts.lasts in
    let less : length old < c.loop-last.lasts.room = omega (arith, c.loop-last.invariant.few, length-drop c.loop-last.last-index items, c.loop-last-test.true) in
    let more = put_more items c.loop-last.last-index _ old c.put.new.self.lasts c.loop-last-test.true (ok_so c.put.result c.put.ensures.ok (c.put.ensures.finds_room less)) in
    record {
      whole = more.0 ∙ c.loop-last.invariant.whole;
      few = omega (arith, c.loop-last.invariant.few, more.1, c.put.ensures.room);
      room = omega (arith, c.loop-last.invariant.room, c.put.ensures.room);
    }
