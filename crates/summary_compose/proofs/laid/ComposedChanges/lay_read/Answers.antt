-- The change laid last has its segments last.
use Rattle.std.proofs.Common.{◌∙◌, ap, arith, ◌++◌, ◌∷◌, [], map}
use Rattle.std.proofs.lemmas.Grind.{common_steps}
use Rattle.face_data.specs.Through.{through}
use Rattle.face_data.specs.View.{changed_of}
use Rattle.summary_compose.specs.Changes.{LaidView, segs_in}
use Rattle.summary_compose.proofs.Parts.{laid_changes, laid_packed, packed_size}
use Rattle.summary_compose.proofs.laid.ComposedChanges.lay_read.Goals as goal

pub read_segs-requires-clause-room : goal.read_segs-requires-clause-room
read_segs-requires-clause-room c =
    let size = packed_size c.self.inside.segs.items c.self.inside.changes.items c.self.invariant in
    let seen = ap (λ (v : LaidView). segs_in v.changes) c.self.view_is in
    let room = ap (λ (v : LaidView). v.seg_room) c.self.view_is in
    grind (arith, common_steps)

pub invariant_of-self : goal.invariant_of-self
invariant_of-self c =
    laid_packed c.self.inside.changes.items c.push_reserved.new.self.items c.self.inside.segs.items (through (map (changed_of c.args.a.now.segs.now) c.args.a.now.changes.now) c.args.a.now.lines c.args.segs.now) c.read_segs.new.segs.items _ c.self.invariant c.read_segs.ensures.items
    (grind (arith, common_steps)) (grind (arith, common_steps)) c.push_reserved.ensures.items

pub returns-clause-changes : goal.returns-clause-changes
returns-clause-changes c =
    laid_changes c.self.inside.changes.items c.push_reserved.new.self.items c.self.inside.segs.items (through (map (changed_of c.args.a.now.segs.now) c.args.a.now.changes.now) c.args.a.now.lines c.args.segs.now) c.read_segs.new.segs.items _ c.self.invariant.fit c.read_segs.ensures.items
    (grind (arith, common_steps)) (grind (arith, common_steps)) c.push_reserved.ensures.items
    ∙ ap (λ (v : LaidView). v.changes ++ (c.args.needle, through (map (changed_of c.args.a.now.segs.now) c.args.a.now.changes.now) c.args.a.now.lines c.args.segs.now) ∷ []) c.self.view_is
