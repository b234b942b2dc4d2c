use Rattle.std.proofs.lemmas.Result.{on_ok_weaker}
use Rattle.verdict_report.proofs.LiveReports.{ended}
use Rattle.verdict_report.proofs.live.append_ending.Goals as goal

pub returns-clause-ok : goal.returns-clause-ok
returns-clause-ok g c =
    on_ok_weaker c.append_final.result
    (ended c.args.book.now.opening c.args.book.now.entries c.journal.result.now.entries c.in_ok-ending.ending.verdict c.in_ok-ending.ending.broken c.args.out.now.items c.append_journal.new.out.items c.append_final.new.out.items
    c.in_ok-ending.ensures.ending.0 c.in_ok-ending.ensures.ending.1 c.journal.ensures c.in_ok-append_journal.ensures) c.append_final.ensures
