use Rattle.std.proofs.lemmas.Result.{on_ok_weaker}
use Rattle.journal_file.specs.Spelling.{text_line}
use Rattle.knit_base.proofs.Rests.{written-one}
use Rattle.journal_file.proofs.write.append_line.Goals as goal

pub returns : goal.returns
returns g c = on_ok_weaker c.append_barred.result (λ written. written-one text_line c.args.text.now c.args.at _ _ _ c.line.ensures.line written) c.append_barred.ensures
