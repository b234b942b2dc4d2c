use Rattle.std.proofs.Common.{◌≡◌, ◌+◌, ◌++◌, drop}
use Rattle.verdict_report.specs.LiveText.{entries_text}
use Rattle.reply_report.proofs.blocks.append_entries.Given as goal

abbrev pub invariant-entries : goal.invariant-entries
invariant-entries l = l.out.items ++ entries_text (l.before + 1) (drop l.before l.journal.entries) ≡ l.fn.out.items ++ entries_text (l.from + 1) (drop l.from l.journal.entries)
