-- One change more.
use Rattle.std.proofs.Common.{◌+◌, max, drop, map, length, ap, ◌∙◌, arith}
use Rattle.face_data.specs.Segments.{entry_needles_of}
use Rattle.face_data.specs.View.{changed_of}
use Rattle.summary_compose.specs.Rooms.{widest_of}
use Rattle.summary_compose.proofs.Widths.{widest_some, widest_step, widest_left}
use Rattle.summary_compose.proofs.room.widest_in.Goals.{then-from-widest, else-from-widest}
use Rattle.summary_compose.proofs.room.widest_in.Goals as goal

pub loop-change-init : goal.loop-change-init
loop-change-init c = record { some = omega arith; rest = omega (arith, widest_some (map (changed_of c.args.segs.now) c.args.changes.now)) }

pub loop-change-preserved : goal.loop-change-preserved
loop-change-preserved c =
    let segs = c.args.segs.now in
    let changes = c.args.changes.now in
    let whole = widest_of (map (changed_of segs) changes) in
    elim c.if-from-widest.branch [
      | then-from-widest w ↦ record {
        some = omega (arith, w.widest-is, w.max-widest.ensures, c.loop-change.invariant.some);
        rest = widest_step segs changes c.loop-change.change-index _ c.loop-change.widest whole c.loop-change-test.true c.loop-change.invariant.rest c.if-from-widest.widest
            (w.widest-is ∙ w.max-widest.ensures ∙ ap (max c.loop-change.widest) (w.entries_in.ensures ∙ ap (λ part. length (entry_needles_of part)) w.part_in.ensures));
      }
      | else-from-widest w ↦ record {
        some = omega (arith, w.widest-is, c.loop-change.invariant.some);
        rest = ap (λ n. max n (widest_of (map (changed_of segs) (drop (c.loop-change.change-index + 1) changes)))) w.widest-is
            ∙ widest_left segs changes c.loop-change.change-index _ c.loop-change.widest whole c.loop-change-test.true c.loop-change.invariant.rest c.from.result c.from.ensures w.if-from-widest.false;
      }
    ]
