-- The change laid last has its segments last.
use Rattle.std.proofs.Common.{◌∙◌, ap, arith, ◌++◌, ◌∷◌, []}
use Rattle.std.proofs.lemmas.Grind.{common_steps}
use Rattle.summary_compose.specs.Changes.{LaidView, segs_in}
use Rattle.summary_compose.proofs.Parts.{laid_changes, laid_packed, packed_size}
use Rattle.summary_compose.proofs.laid.ComposedChanges.lay_old.Goals as goal

pub push_all-requires : goal.push_all-requires
push_all-requires c =
    let size = packed_size c.self.inside.segs.items c.self.inside.changes.items c.self.invariant in
    let seen = ap (λ (v : LaidView). segs_in v.changes) c.self.view_is in
    let room = ap (λ (v : LaidView). v.seg_room) c.self.view_is in
    grind (arith, common_steps)

pub invariant_of-self : goal.invariant_of-self
invariant_of-self c =
    laid_packed c.self.inside.changes.items c.push_reserved.new.self.items c.self.inside.segs.items c.args.segs.now c.push_all.new.segs.items _ c.self.invariant c.push_all.ensures.items
    (grind (arith, common_steps)) (grind (arith, common_steps)) c.push_reserved.ensures.items

pub returns-clause-changes : goal.returns-clause-changes
returns-clause-changes c =
    laid_changes c.self.inside.changes.items c.push_reserved.new.self.items c.self.inside.segs.items c.args.segs.now c.push_all.new.segs.items _ c.self.invariant.fit c.push_all.ensures.items
    (grind (arith, common_steps)) (grind (arith, common_steps)) c.push_reserved.ensures.items
    ∙ ap (λ (v : LaidView). v.changes ++ (c.args.needle, c.args.segs.now) ∷ []) c.self.view_is
