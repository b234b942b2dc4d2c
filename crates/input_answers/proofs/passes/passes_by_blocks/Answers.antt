use Rattle.std.proofs.Common.{◌≡◌, ap, sym, ◌∙◌, false}
use Rattle.input_answers.specs.declared.outcome.Status.TheVariants as status
use Rattle.input_answers.specs.CheckReport.{status_of}
use Rattle.input_answers.proofs.BodyRuns.{check-report}
use Rattle.input_answers.proofs.Dues.{due-broken, due-grouped}
use Rattle.input_answers.proofs.PassesReports.{passes-report}
use Rattle.input_answers.proofs.passes.passes_by_blocks.Goals as goal

pub returns-in-Broken : goal.returns-in-Broken
returns-in-Broken g c = λ input are.
    let ends : status_of c.in_ok-judgement.judgement.verdict ≡ status.Broken = ap status_of c.in-Broken.is in
    due-broken c.args.plan.now.chosen input c.in_ok-told-in-Broken.told.text.items c.in_ok-told-in-Broken.told.status c.args.body.now.lines c.args.body.now.head are c.args.body.now.good c.args.body.now.headed c.requires
    (check-report c.args.plan.now.chosen.profile false false c.args.body.now.head.declared c.args.body.now.lines c.in_ok-told-in-Broken.told.text.items _ c.in_ok-judgement.judgement status.Broken
    c.in_ok-judgement.ensures c.line_of-broken.ensures c.in_ok-told-in-Broken.ensures.text (sym ends))
    (c.in_ok-told-in-Broken.ensures.status ∙ ends)

pub returns : goal.returns
returns g c = λ input are.
    due-grouped c.args.plan.now.chosen input c.in_ok-grouped-in-Sound.grouped.text.items c.in_ok-grouped-in-Sound.grouped.status c.args.body.now.lines c.args.body.now.head are c.args.body.now.good c.args.body.now.headed c.requires
    (passes-report c.args.plan.now.chosen.profile false c.args.body.now.head.declared c.args.body.now.lines c.in_ok-grouped-in-Sound.grouped.text.items c.in_ok-judgement.judgement c.in_ok-ops-in-Sound.ops
    c.in_ok-judgement.ensures (ap status_of c.in-Sound.is) c.in_ok-ops-in-Sound.ensures c.in_ok-grouped-in-Sound.ensures.report)
    c.in_ok-grouped-in-Sound.ensures.status
