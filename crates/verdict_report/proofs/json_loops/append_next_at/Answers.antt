use Rattle.std.proofs.Common.{◌∙◌, map, string_bytes, ap, sym}
use Rattle.std.specs.Option.{option_map}
use Rattle.std.proofs.lemmas.Result.{on_ok_weaker}
use Rattle.carriage_model.specs.FactList.{lent_fact}
use Rattle.verdict_report.specs.JsonText.{loop_json, next_text}
use Rattle.knit_base.proofs.Rests.{written-none, written-one}
use Rattle.verdict_report.proofs.json_loops.append_next_at.Goals as goal

pub returns-in-Some : goal.returns-in-Some
returns-in-Some c =
    on_ok_weaker c.append_next.result
    (λ written. written-one (next_text (loop_json (map string_bytes c.args.strings.now))) c.args.facts.now c.args.i _ _ _ (sym c.get.ensures ∙ ap (option_map lent_fact) c.in-Some.is) written) c.append_next.ensures

pub returns-in-None : goal.returns-in-None
returns-in-None c = written-none (next_text (loop_json (map string_bytes c.args.strings.now))) c.args.facts.now c.args.i _ (sym c.get.ensures ∙ ap (option_map lent_fact) c.in-None.is)
