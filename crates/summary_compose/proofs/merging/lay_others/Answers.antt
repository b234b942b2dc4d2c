-- Each turn lays what comes first of the merged rest.
use Rattle.std.proofs.Common.{refl, arith, ◌∙◌}
use Rattle.summary_compose.specs.Changes.{merged_of}
use Rattle.summary_compose.proofs.Turns.{first_next, second_next, both_next, laid_on, laid_room, laid_segs}
use Rattle.summary_compose.proofs.merging.lay_others.Goals as goal

pub lay_old-requires-clause-room : goal.lay_old-requires-clause-room
lay_old-requires-clause-room c =
    let room = laid_room c.loop-i.laid.changes _ _ (merged_of c.args.a.now c.args.b.now) _
    (first_next c.args.a.now c.args.b.now c.loop-i.i c.loop-i.j _ c.segs_of.result.now (c.in-First.ensures.first refl) (c.in-First.ensures.less refl _) c.segs_of.ensures.segs) c.loop-i.invariant.whole in
    omega (arith, room, c.requires.room, c.loop-i.invariant.change_room)

pub lay_old-requires-clause-seg_room : goal.lay_old-requires-clause-seg_room
lay_old-requires-clause-seg_room c =
    let room = laid_segs c.loop-i.laid.changes _ _ (merged_of c.args.a.now c.args.b.now) _
    (first_next c.args.a.now c.args.b.now c.loop-i.i c.loop-i.j _ c.segs_of.result.now (c.in-First.ensures.first refl) (c.in-First.ensures.less refl _) c.segs_of.ensures.segs) c.loop-i.invariant.whole in
    omega (arith, room, c.requires.seg_room, c.loop-i.invariant.seg_room)

pub loop-i-preserved-in-First : goal.loop-i-preserved-in-First
loop-i-preserved-in-First c = record {
  whole = laid_on c.loop-i.laid.changes c.lay_old.new.self.changes _ _ (merged_of c.args.a.now c.args.b.now) _ c.lay_old.ensures.changes
      (first_next c.args.a.now c.args.b.now c.loop-i.i c.loop-i.j _ c.segs_of.result.now (c.in-First.ensures.first refl) (c.in-First.ensures.less refl _) c.segs_of.ensures.segs) c.loop-i.invariant.whole;
  change_room = c.lay_old.ensures.change_room ∙ c.loop-i.invariant.change_room;
  seg_room = c.lay_old.ensures.seg_room ∙ c.loop-i.invariant.seg_room;
}

pub lay_read-requires-clause-room : goal.lay_read-requires-clause-room
lay_read-requires-clause-room c =
    let room = laid_room c.loop-i.laid.changes _ _ (merged_of c.args.a.now c.args.b.now) _
    (second_next c.args.a.now c.args.b.now c.loop-i.i c.loop-i.j _ c.segs_of-in-Second.result.now (c.in-Second.ensures.second refl) (c.in-Second.ensures.greater refl _) c.segs_of-in-Second.ensures.segs) c.loop-i.invariant.whole in
    omega (arith, room, c.requires.room, c.loop-i.invariant.change_room)

pub lay_read-requires-clause-seg_room : goal.lay_read-requires-clause-seg_room
lay_read-requires-clause-seg_room c =
    let room = laid_segs c.loop-i.laid.changes _ _ (merged_of c.args.a.now c.args.b.now) _
    (second_next c.args.a.now c.args.b.now c.loop-i.i c.loop-i.j _ c.segs_of-in-Second.result.now (c.in-Second.ensures.second refl) (c.in-Second.ensures.greater refl _) c.segs_of-in-Second.ensures.segs) c.loop-i.invariant.whole in
    omega (arith, room, c.requires.seg_room, c.loop-i.invariant.seg_room)

pub lay_read-requires-clause-few : goal.lay_read-requires-clause-few
lay_read-requires-clause-few c =
    let room = laid_segs c.loop-i.laid.changes _ _ (merged_of c.args.a.now c.args.b.now) _
    (second_next c.args.a.now c.args.b.now c.loop-i.i c.loop-i.j _ c.segs_of-in-Second.result.now (c.in-Second.ensures.second refl) (c.in-Second.ensures.greater refl _) c.segs_of-in-Second.ensures.segs) c.loop-i.invariant.whole in
    omega (arith, room, c.requires.few)

pub loop-i-preserved-in-Second : goal.loop-i-preserved-in-Second
loop-i-preserved-in-Second c = record {
  whole = laid_on c.loop-i.laid.changes c.lay_read.new.self.changes _ _ (merged_of c.args.a.now c.args.b.now) _ c.lay_read.ensures.changes
      (second_next c.args.a.now c.args.b.now c.loop-i.i c.loop-i.j _ c.segs_of-in-Second.result.now (c.in-Second.ensures.second refl) (c.in-Second.ensures.greater refl _) c.segs_of-in-Second.ensures.segs) c.loop-i.invariant.whole;
  change_room = c.lay_read.ensures.change_room ∙ c.loop-i.invariant.change_room;
  seg_room = c.lay_read.ensures.seg_room ∙ c.loop-i.invariant.seg_room;
}

pub lay_read-requires-in-Both-clause-room : goal.lay_read-requires-in-Both-clause-room
lay_read-requires-in-Both-clause-room c =
    let room = laid_room c.loop-i.laid.changes _ _ (merged_of c.args.a.now c.args.b.now) _
    (both_next c.args.a.now c.args.b.now c.loop-i.i c.loop-i.j _ c.segs_of-in-Both.result.now (c.in-Both.ensures.both_first refl) (c.in-Both.ensures.both_second refl) (c.in-Both.ensures.equal refl _) c.segs_of-in-Both.ensures.segs) c.loop-i.invariant.whole in
    omega (arith, room, c.requires.room, c.loop-i.invariant.change_room)

pub lay_read-requires-in-Both-clause-seg_room : goal.lay_read-requires-in-Both-clause-seg_room
lay_read-requires-in-Both-clause-seg_room c =
    let room = laid_segs c.loop-i.laid.changes _ _ (merged_of c.args.a.now c.args.b.now) _
    (both_next c.args.a.now c.args.b.now c.loop-i.i c.loop-i.j _ c.segs_of-in-Both.result.now (c.in-Both.ensures.both_first refl) (c.in-Both.ensures.both_second refl) (c.in-Both.ensures.equal refl _) c.segs_of-in-Both.ensures.segs) c.loop-i.invariant.whole in
    omega (arith, room, c.requires.seg_room, c.loop-i.invariant.seg_room)

pub lay_read-requires-in-Both-clause-few : goal.lay_read-requires-in-Both-clause-few
lay_read-requires-in-Both-clause-few c =
    let room = laid_segs c.loop-i.laid.changes _ _ (merged_of c.args.a.now c.args.b.now) _
    (both_next c.args.a.now c.args.b.now c.loop-i.i c.loop-i.j _ c.segs_of-in-Both.result.now (c.in-Both.ensures.both_first refl) (c.in-Both.ensures.both_second refl) (c.in-Both.ensures.equal refl _) c.segs_of-in-Both.ensures.segs) c.loop-i.invariant.whole in
    omega (arith, room, c.requires.few)

pub loop-i-preserved : goal.loop-i-preserved
loop-i-preserved c = record {
  whole = laid_on c.loop-i.laid.changes c.lay_read-in-Both.new.self.changes _ _ (merged_of c.args.a.now c.args.b.now) _ c.lay_read-in-Both.ensures.changes
      (both_next c.args.a.now c.args.b.now c.loop-i.i c.loop-i.j _ c.segs_of-in-Both.result.now (c.in-Both.ensures.both_first refl) (c.in-Both.ensures.both_second refl) (c.in-Both.ensures.equal refl _) c.segs_of-in-Both.ensures.segs) c.loop-i.invariant.whole;
  change_room = c.lay_read-in-Both.ensures.change_room ∙ c.loop-i.invariant.change_room;
  seg_room = c.lay_read-in-Both.ensures.seg_room ∙ c.loop-i.invariant.seg_room;
}
