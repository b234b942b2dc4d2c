use Rattle.std.proofs.Common.{◌++◌, ◌∙◌, ap}
use Rattle.verdict_report.proofs.LiveReports.{ended_alone}
use Rattle.verdict_report.proofs.live.report_end.Goals as goal

pub returns-clause-ok : goal.returns-clause-ok
returns-clause-ok g c =
    let appended = c.in_ok-extend_from_slice.ensures.items ∙ ap (λ t. c.args.out.now.items ++ t) c.deref.ensures.value in
    ended_alone c.args.book.now.opening c.args.book.now.entries _ _ c.args.out.now.items c.extend_from_slice.new.self.items c.new-end.ensures.items c.in_ok-append_ending.ensures.ok appended
