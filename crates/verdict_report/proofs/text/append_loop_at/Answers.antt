use Rattle.std.proofs.Common.{◌∙◌, ap, sym}
use Rattle.std.specs.Option.{option_map}
use Rattle.std.proofs.lemmas.Result.{on_ok_weaker}
use Rattle.carriage_model.specs.FactList.{lent_fact}
use Rattle.verdict_report.specs.VerdictText.{loop_text}
use Rattle.knit_base.proofs.Rests.{written-none, written-one}
use Rattle.verdict_report.proofs.text.append_loop_at.Goals as goal

pub returns-in-Some : goal.returns-in-Some
returns-in-Some c =
    on_ok_weaker c.append_loop.result
    (λ written. written-one (loop_text c.args.declared.now) c.args.facts.now c.args.i _ _ _ (sym c.get.ensures ∙ ap (option_map lent_fact) c.in-Some.is) written) c.append_loop.ensures

pub returns-in-None : goal.returns-in-None
returns-in-None c = written-none (loop_text c.args.declared.now) c.args.facts.now c.args.i _ (sym c.get.ensures ∙ ap (option_map lent_fact) c.in-None.is)
