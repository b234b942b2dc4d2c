use Rattle.std.proofs.Common.{sym, ◌∙◌}
use Rattle.edit_book.specs.Books.{ids_of}
use Rattle.edit_book.specs.Outlines.{outline_document}
use Rattle.edit_book.proofs.HandedOver.{no_stamp, same_stamp, stale_summary_unused, stamp_placed, taken_at, taken_past}
use Rattle.edit_book.proofs.HeldTexts.{ids_are}
use Rattle.edit_book.proofs.book.Book.take_leaf.Goals as goal

pub returns-then-ne : goal.returns-then-ne
returns-then-ne c = λ again h.
    taken_past again c.args.item _ _ (stale_summary_unused c.args.item _ c.ids-ids.ensures.lawful.has_ids.differ (λ same. no_stamp c.stamp.result c.args.item.stamp c.if-ne.ensures (c.stamp.ensures ∙ same))) h

pub unreachable-requires : goal.unreachable-requires
unreachable-requires c =
    stamp_placed _ c.args.item.block c.args.item.stamp (ids_of (outline_document c.self.inside.outline).blocks) (ids_are _ _ c.args.self.now _ _ c.self.invariant c.self.view_is)
    (sym c.stamp.ensures ∙ same_stamp c.stamp.result c.args.item.stamp c.if-ne.ensures) (sym c.place.ensures ∙ c.in_default.is)

pub returns : goal.returns
returns c = λ again h.
    taken_at again c.args.item _ _ (ids_of (outline_document c.self.inside.outline).blocks) c.in-Some.at (ids_are _ _ c.args.self.now _ _ c.self.invariant c.self.view_is) c.ids-ids.ensures.lawful.has_ids.differ
    (sym c.stamp.ensures ∙ same_stamp c.stamp.result c.args.item.stamp c.if-ne.ensures) (sym c.place.ensures ∙ c.in-Some.is) h
