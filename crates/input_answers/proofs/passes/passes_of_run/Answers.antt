use Rattle.std.proofs.Common.{◌≡◌, ap, sym, ◌∙◌, false, refl}
use Rattle.knit_base.specs.Lines.{lines_of}
use Rattle.input_answers.specs.declared.outcome.Status.TheVariants as status
use Rattle.input_answers.specs.CheckReport.{status_of}
use Rattle.input_answers.proofs.BodyRuns.{check-report}
use Rattle.input_answers.proofs.Dues.{due-broken, due-grouped}
use Rattle.input_answers.proofs.FileDues.{all-told}
use Rattle.input_answers.proofs.passes.passes_of_run.Goals as goal

pub returns-in-Broken : goal.returns-in-Broken
returns-in-Broken c = λ chosen input ran.
    let told = c.in_ok-told-in-Broken.told in
    let ends : status_of c.args.file.run.judgement.verdict ≡ status.Broken = ap status_of c.in-Broken.is in
    due-broken chosen input told.text.items told.status (lines_of input) c.args.file.head refl ran.headed.good ran.headed.head_is ran.fits
    (check-report chosen.profile false false c.args.file.head.declared (lines_of input) told.text.items _ c.args.file.run.judgement status.Broken ran.ran.judgement
    (c.text_of.ensures ∙ ran.ran.broken) c.in_ok-told-in-Broken.ensures.text (sym ends))
    (c.in_ok-told-in-Broken.ensures.status ∙ ends)

pub returns : goal.returns
returns c = λ chosen input ran.
    due-grouped chosen input c.in_ok-text-in-Sound.text.items status.Done (lines_of input) c.args.file.head refl ran.headed.good ran.headed.head_is ran.fits
    (all-told chosen.profile false c.args.file.head.declared (lines_of input) c.in_ok-text-in-Sound.text.items c.args.file.run.judgement c.args.file.run.taker c.in_ok-passes-in-Sound.passes
    ran.ran.judgement (ap status_of c.in-Sound.is) ran.ran.taken c.in_ok-passes-in-Sound.ensures c.in_ok-text-in-Sound.ensures)
    refl
