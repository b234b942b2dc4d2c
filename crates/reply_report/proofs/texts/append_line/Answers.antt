use Rattle.std.proofs.lemmas.Result.{on_ok_weaker}
use Rattle.knit_base.proofs.Rests.{written-one}
use Rattle.verdict_report.specs.LiveText.{barred_line}
use Rattle.reply_report.proofs.texts.append_line.Goals as goal

pub returns : goal.returns
returns g c = on_ok_weaker c.append_barred.result (λ written. written-one barred_line c.args.text.now c.args.at _ _ _ c.line.ensures.line written) c.append_barred.ensures
