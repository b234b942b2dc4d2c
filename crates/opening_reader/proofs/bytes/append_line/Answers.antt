use Rattle.std.proofs.Common.{◌∙◌, ap, sym}
use Rattle.std.specs.Option.{option_copied}
use Rattle.std.proofs.lemmas.Result.{on_ok_weaker}
use Rattle.knit_base.proofs.Rests.{written-none, written-one}
use Rattle.knit_ports.specs.WholeLines.{with_feed}
use Rattle.opening_reader.proofs.bytes.append_line.Goals as goal

pub returns-in-Some : goal.returns-in-Some
returns-in-Some c =
    on_ok_weaker c.append_fed.result (λ written. written-one with_feed c.args.text.now c.args.at _ _ _ (sym c.get.ensures.found ∙ ap option_copied c.in-Some.is) written) c.append_fed.ensures

pub returns-in-None : goal.returns-in-None
returns-in-None c = written-none with_feed c.args.text.now c.args.at _ (sym c.get.ensures.found ∙ ap option_copied c.in-None.is)
