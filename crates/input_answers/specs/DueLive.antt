-- What is due for a script that was read whole: what its sessions did, the text and the status.
use Rattle.std.specs.Prelude.{◌≡◌, ◌<◌, ◌≤◌, ℕ, List, [], ◌∷◌, length, All, None, Some}
use Rattle.std.specs.List.{flat_map}
use Rattle.knit_base.specs.Lines.{lines_of}
use Rattle.line_cutter.specs.declared.fault.CutFault.{CutFault}
use Rattle.line_cutter.specs.Cut.{IsFirstBad, IsGoodLine}
use Rattle.knitout_reader.specs.declared.head.HeadFault.{HeadFault}
use Rattle.knitout_reader.specs.declared.head.Head.{Head}
use Rattle.knitout_reader.specs.Head.{IsHead, IsHeadFault, head_of}
use Rattle.machine_profile.specs.declared.Chosen.{Chosen}
use Rattle.edit_journal.specs.declared.opening.Opening.{Opening}
use Rattle.script_reader.specs.declared.command.Script.{Script}
use Rattle.script_reader.specs.declared.fault.Cause.{Cause}
use Rattle.script_reader.specs.declared.fault.ScriptFault.TheVariants.{At}
use Rattle.script_reader.specs.Script.{IsScriptRefusal, IsScript}
use Rattle.edit_sessions.specs.Laws.{IsLegal}
use Rattle.verdict_report.specs.declared.refusal.Refusal.{Refusal}
use Rattle.verdict_report.specs.declared.refusal.Refusal.TheVariants as refusal
use Rattle.verdict_report.specs.Refusals.{refusal_text}
use Rattle.input_answers.specs.declared.live_text.LiveOutput.{LiveOutput}
use Rattle.input_answers.specs.declared.outcome.Status.{Status}
use Rattle.input_answers.specs.declared.outcome.Status.TheVariants as status
use Rattle.file_run.specs.Bodies.{body_of, first_of}
use Rattle.input_answers.specs.Due.{BodyFits, IsSizeRefusal, cut_refusal, head_refusal}
use Rattle.input_answers.specs.LiveText.{IsLiveText}
use Rattle.input_answers.specs.Played.{Played, nothing_played}

-- each block has so many lines, but for the last, which may have fewer and has one at least
abbrev pub AreOpeningBlocks : ℕ → List (List (List ℕ)) → Type 0
AreOpeningBlocks size [] = Unit {0}
AreOpeningBlocks size (block ∷ []) = (0 < length block) × (length block ≤ size)
AreOpeningBlocks size (block ∷ next ∷ more) = (length block ≡ size) × AreOpeningBlocks size (next ∷ more)

-- the document that the sessions edit begins with the body of this text, in blocks, and is read by the limits chosen and by the head
pub record IsScriptOpening (chosen : Chosen) (head : Head) (text : List (List ℕ)) (opening : Opening) : Type 0 where
  pub profile : opening.setting.profile ≡ chosen.profile
  pub declared : opening.setting.declared ≡ head.declared
  pub first : opening.setting.first ≡ first_of text
  pub lines : flat_map (λ block. block) opening.texts ≡ body_of text
  pub blocks : AreOpeningBlocks chosen.block opening.texts

-- the input has good lines, which spell this script, and its opening text has this head
pub record HasScript (input : List ℕ) (script : Script) (head : Head) : Type 0 where
  pub good : All IsGoodLine (lines_of input)
  pub spelt : IsScript (lines_of input) script
  pub head_is : IsHead script.text head

-- what the sessions did, the text and the status that are due for this input, with these limits, where this is to be written
pub data DueLive (output : LiveOutput) (chosen : Chosen) (input : List ℕ) : Played → List ℕ → Status → Type 0 where
  -- a line isn't text or is too long: the first such line is named
  bad_line : (fault : CutFault) (said : Refusal) → IsFirstBad (lines_of input) fault → cut_refusal fault ≡ Some said
      → DueLive output chosen input nothing_played (refusal_text said) status.BadInput
  -- the lines are good and spell no script: the first line outside the grammar is named, with its cause
  bad_script : (line : ℕ) (cause : Cause) → All IsGoodLine (lines_of input) → IsScriptRefusal (lines_of input) (At line cause)
      → DueLive output chosen input nothing_played (refusal_text (refusal.BadScript line cause)) status.BadInput
  -- the head of the script's opening text is refused, for the first reason that holds
  bad_head : (script : Script) (fault : HeadFault) (said : Refusal) → All IsGoodLine (lines_of input) → IsScript (lines_of input) script
      → IsHeadFault script.text fault → head_refusal fault ≡ Some said → DueLive output chosen input nothing_played (refusal_text said) status.BadInput
  -- the body of the opening text has too many lines, or else too many blocks
  too_large : (script : Script) (head : Head) (said : Refusal) → HasScript input script head
      → IsSizeRefusal chosen.block (length (body_of script.text)) said → DueLive output chosen input nothing_played (refusal_text said) status.TooLarge
  -- The sessions of the script edited the document: the journal and the replies are one legal history. The text tells them, with the verdict
  -- on the document at its end; or else it keeps what the document began with, and the journal.
  edited : (head : Head) (opening : Opening) (played : Played) (text : List ℕ) → HasScript input played.script head
      → BodyFits chosen.block (length (body_of played.script.text)) → IsScriptOpening chosen head played.script.text opening
      → IsLegal opening played.script.sessions played.entries played.replies → played.groups ≡ None → IsLiveText output (head_of played.script.text) opening played.entries played.replies text
      → DueLive output chosen input played text status.Done
