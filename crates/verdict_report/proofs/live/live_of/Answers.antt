use Rattle.std.proofs.Common.{map}
use Rattle.verdict_report.proofs.LiveReports.{told}
use Rattle.verdict_report.proofs.live.live_of.Goals as goal

pub returns-clause-text : goal.returns-clause-text
returns-clause-text g c =
    told c.args.book.now.opening c.args.book.now.entries c.args.replies.now (map (λ list. list.items) c.as_slice.result.now) c.new-text.result.items c.append_sessions.new.out.items c.append_ending.new.out.items
    c.new-text.ensures.items c.as_slice.ensures c.in_ok-append_sessions.ensures c.in_ok-append_ending.ensures.ok
