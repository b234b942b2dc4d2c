-- Where the second face leaves new loops alone on the same needles, its changes are the merged ones, with the lines raised.
use Rattle.std.proofs.Common.{◌≡◌, ◌∙◌, ap, arith, length, map, sym}
use Rattle.std.proofs.lemmas.List.{length-map}
use Rattle.face_data.specs.View.{changed_of}
use Rattle.summary_compose.specs.Changes.{changes_in, merged_of, raised_seg, segs_in}
use Rattle.summary_compose.proofs.Parts.{packed_size}
use Rattle.summary_compose.proofs.RaisedChanges.{changes_raised, offsets_all, packed_raised}
use Rattle.summary_compose.proofs.merging.merge.Goals as goal

pub lay_raised-requires-clause-seg_room : goal.lay_raised-requires-clause-seg_room
lay_raised-requires-clause-seg_room c =
    let a = c.args.a.now in
    let b = c.args.b.now in
    let raised = map (raised_seg a.lines) b.segs.now in
    let same : length raised ≡ length b.segs.now = length-map b.segs.now (raised_seg a.lines) in
    let size : length raised ≡ segs_in (map (changed_of raised) b.changes.now) = packed_size raised b.changes.now (packed_raised a.lines b.segs.now b.changes.now c.requires.second_packed) in
    let all : segs_in (merged_of a b) ≡ segs_in (map (changed_of raised) b.changes.now) =
    ap segs_in (c.change_same.ensures c.if-change_same.true ∙ changes_raised (changes_in a) a.lines b.segs.now b.changes.now (c.are_new.ensures c.if-are_new.true)) in
    omega (arith, same, size, all, c.requires.seg_room)

pub lay_raised-requires-clause-offsets : goal.lay_raised-requires-clause-offsets
lay_raised-requires-clause-offsets c = offsets_all c.args.a.now.lines c.args.b.now.segs.now c.args.b.now.changes.now c.requires.second_packed c.requires.offsets

pub returns-then-are_new-clause-changes : goal.returns-then-are_new-clause-changes
returns-then-are_new-clause-changes c =
    let a = c.args.a.now in
    let b = c.args.b.now in
    c.lay_raised.ensures.changes
    ∙ sym (changes_raised (changes_in a) a.lines b.segs.now b.changes.now (c.are_new.ensures c.if-are_new.true))
    ∙ sym (c.change_same.ensures c.if-change_same.true)
