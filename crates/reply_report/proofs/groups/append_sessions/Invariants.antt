use Rattle.std.proofs.Common.{◌≡◌, ◌++◌, drop, map}
use Rattle.edit_journal.specs.Documents.{names_at}
use Rattle.reply_report.specs.GroupsText.{steps_sessions}
use Rattle.reply_report.proofs.groups.append_sessions.Given as goal

abbrev pub invariant-loop-session : goal.invariant-loop-session
invariant-loop-session l =
    l.out.items ++ steps_sessions (names_at l.book.opening l.book.entries) l.session (drop l.session (map (λ list. list.items) l.sessions))
    ≡ l.fn.out.items ++ steps_sessions (names_at l.book.opening l.book.entries) 0 (map (λ list. list.items) l.sessions)
