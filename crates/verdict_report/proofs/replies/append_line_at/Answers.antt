use Rattle.std.proofs.Common.{◌∙◌, ap, sym}
use Rattle.std.specs.Option.{option_copied}
use Rattle.std.proofs.lemmas.Result.{on_ok_weaker}
use Rattle.verdict_report.specs.LiveText.{barred_line}
use Rattle.knit_base.proofs.Rests.{written-none, written-one}
use Rattle.verdict_report.proofs.replies.append_line_at.Goals as goal

pub returns-in-Some : goal.returns-in-Some
returns-in-Some c =
    on_ok_weaker c.append_barred.result (λ written. written-one barred_line c.args.lines.now c.args.i _ _ _ (sym c.get.ensures.found ∙ ap option_copied c.in-Some.is) written) c.append_barred.ensures

pub returns-in-None : goal.returns-in-None
returns-in-None c = written-none barred_line c.args.lines.now c.args.i _ (sym c.get.ensures.found ∙ ap option_copied c.in-None.is)
