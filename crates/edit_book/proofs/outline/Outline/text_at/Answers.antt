use Rattle.std.proofs.Common.{ap, sym, ◌∙◌}
use Rattle.std.specs.Option.{option_copied}
use Rattle.edit_book.proofs.Blocks.{short_text, text_later}
use Rattle.edit_book.proofs.outline.Outline.text_at.Goals as goal

pub returns-then-stamp-eq0-clause-short : goal.returns-then-stamp-eq0-clause-short
returns-then-stamp-eq0-clause-short c = short_text c.self.inside.opening c.self.inside.journal.entries c.args.block 0 c.get.result c.self.invariant.0.lawful.short c.get.ensures

pub returns-clause-short : goal.returns-clause-short
returns-clause-short c =
    short_text c.self.inside.opening c.self.inside.journal.entries c.args.block c.args.stamp c.text_for.result c.self.invariant.0.lawful.short
    (c.text_for.ensures ∙ sym (text_later c.self.inside.opening c.self.inside.journal.entries c.args.block c.args.stamp c.in_ok-get.field-0.now c.if-stamp-eq0.false (ap option_copied (sym c.in_ok-get.was) ∙ c.get-2.ensures)))
