-- What is due for a script of groups that was read whole: what its sessions did, the text and the status.
use Rattle.std.specs.Prelude.{◌≡◌, ℕ, List, length, All, Some}
use Rattle.knit_base.specs.Lines.{lines_of}
use Rattle.line_cutter.specs.declared.fault.CutFault.{CutFault}
use Rattle.line_cutter.specs.Cut.{IsFirstBad, IsGoodLine}
use Rattle.knitout_reader.specs.declared.head.HeadFault.{HeadFault}
use Rattle.knitout_reader.specs.declared.head.Head.{Head}
use Rattle.knitout_reader.specs.Head.{IsHead, IsHeadFault}
use Rattle.machine_profile.specs.declared.Chosen.{Chosen}
use Rattle.edit_journal.specs.declared.opening.Opening.{Opening}
use Rattle.script_reader.specs.declared.fault.Cause.{Cause}
use Rattle.script_reader.specs.declared.fault.ScriptFault.TheVariants.{At}
use Rattle.script_reader.specs.declared.step.GroupScript.{GroupScript}
use Rattle.script_reader.specs.Groups.{IsGroupRefusal, IsGroupScript}
use Rattle.edit_groups.specs.Chunks.{entries_of_chunks}
use Rattle.edit_groups.specs.Sessions.{IsLegalRun}
use Rattle.verdict_report.specs.declared.refusal.Refusal.{Refusal}
use Rattle.verdict_report.specs.declared.refusal.Refusal.TheVariants as refusal
use Rattle.verdict_report.specs.Refusals.{refusal_text}
use Rattle.input_answers.specs.declared.outcome.GroupOutcome.{GroupOutcome}
use Rattle.input_answers.specs.declared.outcome.Status.{Status}
use Rattle.input_answers.specs.declared.outcome.Status.TheVariants as status
use Rattle.file_run.specs.Bodies.{body_of}
use Rattle.input_answers.specs.Due.{BodyFits, IsSizeRefusal, cut_refusal, head_refusal}
use Rattle.input_answers.specs.DueLive.{IsScriptOpening}
use Rattle.reply_report.specs.GroupsText.{IsGroupsReport}
use Rattle.input_answers.specs.Played.{Played, groups_played, nothing_played}

-- the input has good lines, which spell this script, and its opening text has this head
pub record HasGroupScript (input : List ℕ) (script : GroupScript) (head : Head) : Type 0 where
  pub good : All IsGoodLine (lines_of input)
  pub spelt : IsGroupScript (lines_of input) script
  pub head_is : IsHead script.text head

-- what the sessions did, the text and the status that are due for this input, with these limits
pub data DueGroups (chosen : Chosen) (input : List ℕ) : Played → List ℕ → Status → Type 0 where
  -- a line isn't text or is too long: the first such line is named
  bad_line : (fault : CutFault) (said : Refusal) → IsFirstBad (lines_of input) fault → cut_refusal fault ≡ Some said
      → DueGroups chosen input nothing_played (refusal_text said) status.BadInput
  -- the lines are good and spell no script of groups: the first line at which no such script goes on is named, with its cause
  bad_script : (line : ℕ) (cause : Cause) → All IsGoodLine (lines_of input) → IsGroupRefusal (lines_of input) (At line cause)
      → DueGroups chosen input nothing_played (refusal_text (refusal.BadScript line cause)) status.BadInput
  -- the head of the script's opening text is refused, for the first reason that holds
  bad_head : (script : GroupScript) (fault : HeadFault) (said : Refusal) → All IsGoodLine (lines_of input) → IsGroupScript (lines_of input) script
      → IsHeadFault script.text fault → head_refusal fault ≡ Some said → DueGroups chosen input nothing_played (refusal_text said) status.BadInput
  -- the body of the opening text has too many lines, or else too many blocks
  too_large : (script : GroupScript) (head : Head) (said : Refusal) → HasGroupScript input script head
      → IsSizeRefusal chosen.block (length (body_of script.text)) said → DueGroups chosen input nothing_played (refusal_text said) status.TooLarge
  -- The sessions of the script edited the document: the steps that were accepted and the replies are one legal run, and the text tells them, with
  -- the verdict on the document at its end.
  edited : (head : Head) (opening : Opening) (did : GroupOutcome) (text : List ℕ) → HasGroupScript input did.script head
      → BodyFits chosen.block (length (body_of did.script.text)) → IsScriptOpening chosen head did.script.text opening
      → IsLegalRun opening did.script.sessions did.chunks did.replies → IsGroupsReport opening (entries_of_chunks did.chunks) did.replies text
      → DueGroups chosen input (groups_played did) text status.Done
