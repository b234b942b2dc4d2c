use Rattle.verdict_report.proofs.LiveReports.{final_alone}
use Rattle.verdict_report.proofs.live.final_of.Goals as goal

pub returns-clause-text : goal.returns-clause-text
returns-clause-text g c =
    final_alone c.args.book.now.opening c.args.book.now.entries c.in_ok-ending.ending.verdict c.in_ok-ending.ending.broken c.new-text.result.items c.append_final.new.out.items
    c.in_ok-ending.ensures.ending.0 c.in_ok-ending.ensures.ending.1 c.new-text.ensures.items c.in_ok-append_final.ensures
