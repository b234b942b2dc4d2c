use Rattle.std.proofs.Common.{All, List, ℕ, subst}
use Rattle.std.proofs.lemmas.Result.{IfOk-weaker}
use Rattle.line_cutter.specs.Cut.{IsGoodLine}
use Rattle.script_reader.specs.Script.{IsScriptRefusal, IsScript}
use Rattle.input_answers.specs.LiveText.{output_of}
use Rattle.input_answers.proofs.LiveDues.{live-bad_script}
use Rattle.input_answers.proofs.ScriptTexts.{few_sessions, short_texts}
use Rattle.input_answers.proofs.live.answer_lines.Goals as goal

pub answer_script-requires-clause-short : goal.answer_script-requires-clause-short
answer_script-requires-clause-short g c = λ κs live. short_texts c.args.lines c.in-Ok.script c.requires c.in-Ok.ensures.script

pub answer_script-requires-clause-few : goal.answer_script-requires-clause-few
answer_script-requires-clause-few g c = λ κs live. few_sessions c.args.lines c.in-Ok.script c.in-Ok.ensures.script

pub returns-in-Ok : goal.returns-in-Ok
returns-in-Ok g c =
    IfOk-weaker c.answer_script.result _ _
    (λ answer due input are. due input (subst (All IsGoodLine) are c.requires) (subst (λ (lines : List (List ℕ)). IsScript lines c.in-Ok.script) are c.in-Ok.ensures.script))
    c.answer_script.ensures

pub returns-in-Err-At : goal.returns-in-Err-At
returns-in-Err-At g c =
    IfOk-weaker c.refusal.result _ _
    (λ answer is input are. live-bad_script (output_of c.args.plan.now.command) c.args.plan.now.chosen input answer c.args.lines _ _ are c.requires (subst (IsScriptRefusal c.args.lines) c.in-Err-At.field-0-is c.in-Err-At.ensures.fault) is)
    c.refusal.ensures
