use Rattle.std.proofs.Common.{sym, ◌∙◌}
use Rattle.edit_book.proofs.Added.{anchor_placed}
use Rattle.edit_book.proofs.outline.Outline.place_after.Goals as goal

pub unreachable-requires : goal.unreachable-requires
unreachable-requires c = anchor_placed _ _ _ _ _ c.in-After.id c.args.anchor c.args.self.now _ c.self.invariant.0 c.self.view_is c.requires c.in-After.is (sym c.position.ensures ∙ c.in-None.is)
