use Rattle.std.proofs.Common.{◌∙◌, ap, sym}
use Rattle.std.specs.Option.{option_copied}
use Rattle.std.proofs.lemmas.Result.{on_ok_weaker}
use Rattle.journal_file.specs.Spelling.{text_line}
use Rattle.knit_base.proofs.Rests.{written-none, written-one}
use Rattle.journal_file.proofs.write.append_head_line.Goals as goal

pub returns-in-Some : goal.returns-in-Some
returns-in-Some c =
    on_ok_weaker c.append_barred.result (λ written. written-one text_line c.args.head.now c.args.at _ _ _ (sym c.get.ensures.found ∙ ap option_copied c.in-Some.is) written) c.append_barred.ensures

pub returns-in-None : goal.returns-in-None
returns-in-None c = written-none text_line c.args.head.now c.args.at _ (sym c.get.ensures.found ∙ ap option_copied c.in-None.is)
