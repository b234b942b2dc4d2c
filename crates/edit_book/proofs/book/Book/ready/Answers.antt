use Rattle.std.proofs.Common.{sym, subst, ◌∙◌, arith}
use Rattle.face_data.specs.Summaries.{Summary}
use Rattle.edit_book.proofs.Made.{at_fits}
use Rattle.edit_book.proofs.Rooms.{ready_at, ready_by}
use Rattle.edit_book.proofs.Boxes.{count_of, same_again}
use Rattle.edit_book.proofs.book.Book.ready.Goals as goal
use Rattle.summary_tree.specs.Trees.{CanReplace, TreeView}

pub need_replace-need-requires-clause-place : goal.need_replace-need-requires-clause-place
need_replace-need-requires-clause-place c =
    let within = (at_fits _ _ _ _ _ c.self.invariant (sym c.place.ensures ∙ c.in-Some.is)).0 in
    omega (arith, within, count_of _ _ c.deref.ensures)

pub returns-then-has_room : goal.returns-then-has_room
returns-then-has_room c =
    let can = c.need_replace-need.ensures c.deref-then-has_room.result.now (same_again _ _ _ c.deref.ensures c.deref-then-has_room.ensures) in
    let place = sym c.place.ensures ∙ c.in-Some.is in (
      λ is. ready_by _ _ c.args.block c.in-Some.at c.args.self.now _ _ c.args.prepared.now.face c.self.view_is place (sym c.has_room.ensures ∙ c.if-has_room.true)
          (subst (λ (p : TreeView × Summary). CanReplace p.0 c.in-Some.at p.1) (λ i. (c.deref-then-has_room.ensures i, c.view.ensures.summary i)) (can.0 (c.meets.ensures.0 is))),
      λ ready.
          let here = ready_at _ _ c.args.block c.in-Some.at c.args.self.now _ _ c.args.prepared.now.face c.self.view_is place ready in
          c.meets.ensures.1 (can.1 (subst (λ (p : TreeView × Summary). CanReplace p.0 c.in-Some.at p.1) (λ i. (sym c.deref-then-has_room.ensures i, sym c.view.ensures.summary i)) here.1)),
    )
