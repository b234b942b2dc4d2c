-- The change at a place of both faces comes next, and the second's counts.
use Rattle.std.proofs.Common.{◌∙◌, ◌<◌, arith, length, refl}
use Rattle.summary_compose.specs.Changes.{merged_of}
use Rattle.summary_compose.proofs.Turns.{laid_on, laid_room, laid_segs, new_next, new_rises}
use Rattle.summary_compose.proofs.merging.lay_alike.Goals as goal

pub overflow_add-lines : goal.overflow_add-lines
overflow_add-lines c =
    let within : c.loop-i.i < length c.args.b.now.changes.now = omega (arith, c.loop-i-test.true, c.min-count.ensures) in
    let rises = new_rises c.args.a.now c.args.b.now c.loop-i.i _ c.in-Some.offset c.requires.offsets within c.in-Some.ensures in
    omega (arith, rises)

pub lay_new-requires-clause-room : goal.lay_new-requires-clause-room
lay_new-requires-clause-room c =
    let first : c.loop-i.i < length c.args.a.now.changes.now = omega (arith, c.loop-i-test.true, c.min-count.ensures) in
    let second : c.loop-i.i < length c.args.b.now.changes.now = omega (arith, c.loop-i-test.true, c.min-count.ensures) in
    let room = laid_room c.loop-i.laid.changes _ _ (merged_of c.args.a.now c.args.b.now) _
    (new_next c.args.a.now c.args.b.now c.loop-i.i _ c.in-Some.offset first second ((c.if-not-is_same.ensures).0 refl) c.in-Some.ensures) c.loop-i.invariant.whole in
    omega (arith, room, c.requires.room, c.loop-i.invariant.change_room)

pub lay_new-requires-clause-seg_room : goal.lay_new-requires-clause-seg_room
lay_new-requires-clause-seg_room c =
    let first : c.loop-i.i < length c.args.a.now.changes.now = omega (arith, c.loop-i-test.true, c.min-count.ensures) in
    let second : c.loop-i.i < length c.args.b.now.changes.now = omega (arith, c.loop-i-test.true, c.min-count.ensures) in
    let room = laid_segs c.loop-i.laid.changes _ _ (merged_of c.args.a.now c.args.b.now) _
    (new_next c.args.a.now c.args.b.now c.loop-i.i _ c.in-Some.offset first second ((c.if-not-is_same.ensures).0 refl) c.in-Some.ensures) c.loop-i.invariant.whole in
    omega (arith, room, c.requires.seg_room, c.loop-i.invariant.seg_room)

pub loop-i-preserved : goal.loop-i-preserved
loop-i-preserved c =
    let first : c.loop-i.i < length c.args.a.now.changes.now = omega (arith, c.loop-i-test.true, c.min-count.ensures) in
    let second : c.loop-i.i < length c.args.b.now.changes.now = omega (arith, c.loop-i-test.true, c.min-count.ensures) in
    record {
      whole = laid_on c.loop-i.laid.changes c.lay_new.new.self.changes _ _ (merged_of c.args.a.now c.args.b.now) _ c.lay_new.ensures.changes
          (new_next c.args.a.now c.args.b.now c.loop-i.i _ c.in-Some.offset first second ((c.if-not-is_same.ensures).0 refl) c.in-Some.ensures) c.loop-i.invariant.whole;
      change_room = c.lay_new.ensures.change_room ∙ c.loop-i.invariant.change_room;
      seg_room = c.lay_new.ensures.seg_room ∙ c.loop-i.invariant.seg_room;
    }
