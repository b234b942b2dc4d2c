-- What is due for a script, from what the parts of the program say.
use Rattle.std.proofs.Common.{◌≡◌, ℕ, List, length, Some, All, subst, sym}
use Rattle.knit_base.specs.Lines.{lines_of}
use Rattle.line_cutter.specs.declared.fault.CutFault.{CutFault}
use Rattle.line_cutter.specs.Cut.{IsFirstBad, IsGoodLine}
use Rattle.knitout_reader.specs.declared.head.Head.{Head}
use Rattle.knitout_reader.specs.declared.head.HeadFault.{HeadFault}
use Rattle.knitout_reader.specs.Head.{IsHeadFault}
use Rattle.machine_profile.specs.declared.Chosen.{Chosen}
use Rattle.script_reader.specs.declared.command.Script.{Script}
use Rattle.script_reader.specs.declared.fault.Cause.{Cause}
use Rattle.script_reader.specs.declared.fault.ScriptFault.TheVariants.{At}
use Rattle.script_reader.specs.Script.{IsScriptRefusal, IsScript}
use Rattle.verdict_report.specs.declared.refusal.Refusal.{Refusal}
use Rattle.verdict_report.specs.declared.refusal.Refusal.TheVariants as refusal
use Rattle.verdict_report.specs.Refusals.{refusal_text}
use Rattle.input_answers.specs.declared.ending.Answer.{Answer}
use Rattle.input_answers.specs.declared.live_text.LiveOutput.{LiveOutput}
use Rattle.input_answers.specs.declared.outcome.Status.{Status}
use Rattle.input_answers.specs.declared.outcome.Status.TheVariants as status
use Rattle.input_answers.specs.Answers.{IsDueLive, Refuses}
use Rattle.file_run.specs.Bodies.{body_of}
use Rattle.input_answers.specs.Due.{IsSizeRefusal, cut_refusal, head_refusal}
use Rattle.input_answers.specs.DueLive.{DueLive, HasScript, bad_line, bad_script, bad_head, too_large}
use Rattle.input_answers.specs.Played.{Played, nothing_played}

-- a refusal that is due
live-refusal : (output : LiveOutput) (chosen : Chosen) (input : List ℕ) (answer : Answer) (said : Refusal) (ends : Status) → DueLive output chosen input nothing_played (refusal_text said) ends
    → Refuses said ends answer → IsDueLive output chosen input answer
live-refusal output chosen input answer said ends due is =
    subst (λ (p : Played). DueLive output chosen input p answer.text.items answer.outcome.status) (sym is.played)
    (subst (λ (t : List ℕ). DueLive output chosen input nothing_played t answer.outcome.status) (sym is.told) (subst (λ (s : Status). DueLive output chosen input nothing_played (refusal_text said) s) (sym is.ended) due))

-- the first bad line
pub live-bad_line : (output : LiveOutput) (chosen : Chosen) (input : List ℕ) (answer : Answer) (fault : CutFault) (said : Refusal) → IsFirstBad (lines_of input) fault → cut_refusal fault ≡ Some said
    → Refuses said status.BadInput answer → IsDueLive output chosen input answer
live-bad_line output chosen input answer fault said bad tells is = live-refusal output chosen input answer said status.BadInput (bad_line fault said bad tells) is

-- the first line outside the grammar of scripts
pub live-bad_script : (output : LiveOutput) (chosen : Chosen) (input : List ℕ) (answer : Answer) (lines : List (List ℕ)) (line : ℕ) (cause : Cause) → lines ≡ lines_of input → All IsGoodLine lines
    → IsScriptRefusal lines (At line cause) → Refuses (refusal.BadScript line cause) status.BadInput answer → IsDueLive output chosen input answer
live-bad_script output chosen input answer lines line cause are good bad is =
    live-refusal output chosen input answer (refusal.BadScript line cause) status.BadInput
    (bad_script line cause (subst (All IsGoodLine) are good) (subst (λ (ls : List (List ℕ)). IsScriptRefusal ls (At line cause)) are bad)) is

-- the refusal of a head
pub live-bad_head : (output : LiveOutput) (chosen : Chosen) (input : List ℕ) (answer : Answer) (script : Script) (fault : HeadFault) (said : Refusal) → All IsGoodLine (lines_of input) → IsScript (lines_of input) script
    → IsHeadFault script.text fault → head_refusal fault ≡ Some said → Refuses said status.BadInput answer → IsDueLive output chosen input answer
live-bad_head output chosen input answer script fault said good spelt bad tells is = live-refusal output chosen input answer said status.BadInput (bad_head script fault said good spelt bad tells) is

-- a body that is too large
pub live-too_large : (output : LiveOutput) (chosen : Chosen) (input : List ℕ) (answer : Answer) (script : Script) (head : Head) (count : ℕ) (said : Refusal) → HasScript input script head
    → count ≡ length (body_of script.text) → IsSizeRefusal chosen.block count said → Refuses said status.TooLarge answer → IsDueLive output chosen input answer
live-too_large output chosen input answer script head count said has counted large is =
    live-refusal output chosen input answer said status.TooLarge (too_large script head said has (subst (λ (n : ℕ). IsSizeRefusal chosen.block n said) counted large)) is
