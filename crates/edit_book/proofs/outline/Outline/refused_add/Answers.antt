use Rattle.std.proofs.Common.{sym, ◌∙◌}
use Rattle.edit_book.proofs.PreparedTexts.{short_now}
use Rattle.edit_book.proofs.outline.Outline.refused_add.Goals as goal

pub lines_after_add-requires-clause-short : goal.lines_after_add-requires-clause-short
lines_after_add-requires-clause-short c = short_now c.args.self.now.opening c.args.self.now.entries c.args.head c.args.prepared.now (sym c.refused_head.ensures ∙ c.in_default-refused_head.is) c.requires
