use Rattle.std.proofs.Common.{◌≡◌, ap, subst, sym, ◌∙◌}
use Rattle.std.specs.Option.{option_copied}
use Rattle.edit_journal.specs.Documents.{names_at}
use Rattle.edit_book.specs.Outlines.{OutlineView}
use Rattle.edit_book.specs.Headers.{AreNumbersRising, last_not_above}
use Rattle.edit_book.proofs.HeaderNames.{header_rises, names_of_entry, names_of_opening}
use Rattle.edit_book.proofs.KeptHeaders.{changed_lent}
use Rattle.edit_book.proofs.outline.Outline.names_at.Goals as goal

pub stamp_at-requires : goal.stamp_at-requires
stamp_at-requires c = subst AreNumbersRising (sym (changed_lent _ _ _ _ _ c.self.invariant.1 c.deref.ensures)) (header_rises c.self.inside.journal.entries)

pub unreachable-requires : goal.unreachable-requires
unreachable-requires c =
    let last = c.stamp_at.ensures ∙ ap (last_not_above c.args.version) (changed_lent _ _ _ _ _ c.self.invariant.1 c.deref.ensures) in
    let gave = names_of_entry c.self.inside.opening c.self.inside.journal.entries c.args.version c.stamp_at.result c.in-Some.entry.now last (sym (ap option_copied c.in-Some.is) ∙ c.get.ensures) in
    let none = sym (ap option_copied c.in-None-names_for.is) ∙ c.names_for.ensures in
    absurd (cc (gave, none))

pub returns-in-Some-names_for : goal.returns-in-Some-names_for
returns-in-Some-names_for c =
    let last = c.stamp_at.ensures ∙ ap (last_not_above c.args.version) (changed_lent _ _ _ _ _ c.self.invariant.1 c.deref.ensures) in
    let gave = names_of_entry c.self.inside.opening c.self.inside.journal.entries c.args.version c.stamp_at.result c.in-Some.entry.now last (sym (ap option_copied c.in-Some.is) ∙ c.get.ensures) in
    let some = sym (ap option_copied c.in-Some-names_for.is) ∙ c.names_for.ensures in
    let same : c.in-Some-names_for.names.now ≡ names_at c.self.inside.opening c.self.inside.journal.entries c.args.version = cc (gave, some) in
    subst (λ (w : OutlineView). c.in-Some-names_for.names.now ≡ names_at w.opening w.entries c.args.version) c.self.view_is same

pub returns-in-None : goal.returns-in-None
returns-in-None c =
    let last = c.stamp_at.ensures ∙ ap (last_not_above c.args.version) (changed_lent _ _ _ _ _ c.self.invariant.1 c.deref.ensures) in
    subst (λ (w : OutlineView). c.self.inside.opening.setting.declared ≡ names_at w.opening w.entries c.args.version) c.self.view_is
    (names_of_opening c.self.inside.opening c.self.inside.journal.entries c.args.version c.stamp_at.result last (sym (ap option_copied c.in-None.is) ∙ c.get.ensures))
