use Rattle.std.proofs.Common.{◌≡◌, ◌+◌, ◌++◌, drop}
use Rattle.edit_journal.specs.Documents.{names_at}
use Rattle.reply_report.specs.GroupsText.{steps_text}
use Rattle.reply_report.proofs.groups.append_replies.Given as goal

abbrev pub invariant-loop-i : goal.invariant-loop-i
invariant-loop-i l = l.out.items ++ steps_text (names_at l.book.opening l.book.entries) (l.i + 1) (drop l.i l.replies) ≡ l.fn.out.items ++ steps_text (names_at l.book.opening l.book.entries) 1 l.replies
