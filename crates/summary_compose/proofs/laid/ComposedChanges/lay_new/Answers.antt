-- The change laid last has its segment last.
use Rattle.std.proofs.Common.{◌∙◌, ap, arith, ◌++◌, ◌∷◌, [], refl}
use Rattle.std.proofs.lemmas.Grind.{common_steps}
use Rattle.face_data.specs.declared.face.Seg.TheVariants.{New}
use Rattle.summary_compose.specs.Changes.{LaidView, segs_in}
use Rattle.summary_compose.proofs.Parts.{laid_changes, laid_packed, packed_size}
use Rattle.summary_compose.proofs.laid.ComposedChanges.lay_new.Goals as goal

pub push_reserved-requires : goal.push_reserved-requires
push_reserved-requires c =
    let size = packed_size c.self.inside.segs.items c.self.inside.changes.items c.self.invariant in
    let seen = ap (λ (v : LaidView). segs_in v.changes) c.self.view_is in
    let room = ap (λ (v : LaidView). v.seg_room) c.self.view_is in
    grind (arith, common_steps)

pub invariant_of-self : goal.invariant_of-self
invariant_of-self c =
    laid_packed c.self.inside.changes.items c.push_reserved-2.new.self.items c.self.inside.segs.items (New c.args.line ∷ []) c.push_reserved.new.self.items _ c.self.invariant c.push_reserved.ensures.items
    (grind (arith, common_steps)) refl c.push_reserved-2.ensures.items

pub returns-clause-changes : goal.returns-clause-changes
returns-clause-changes c =
    laid_changes c.self.inside.changes.items c.push_reserved-2.new.self.items c.self.inside.segs.items (New c.args.line ∷ []) c.push_reserved.new.self.items _ c.self.invariant.fit c.push_reserved.ensures.items
    (grind (arith, common_steps)) refl c.push_reserved-2.ensures.items
    ∙ ap (λ (v : LaidView). v.changes ++ (c.args.needle, New c.args.line ∷ []) ∷ []) c.self.view_is
