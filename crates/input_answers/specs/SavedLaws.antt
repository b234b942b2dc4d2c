-- What `save` writes can be replayed.
use Rattle.std.specs.Prelude.{◌≡◌, ℕ, ◌≤◌, List, length}
use Rattle.edit_journal.specs.declared.opening.Opening.{Opening}
use Rattle.knitout_reader.specs.declared.head.Head.{Head}
use Rattle.knitout_reader.specs.Head.{IsHead}
use Rattle.machine_profile.specs.declared.Chosen.{Chosen}
use Rattle.verdict_report.specs.LiveText.{IsFinalReport}
use Rattle.input_answers.specs.declared.live_text.LiveOutput.TheVariants.{SavedText}
use Rattle.input_answers.specs.declared.outcome.Status.{Status}
use Rattle.input_answers.specs.declared.outcome.Status.TheVariants.{Done}
use Rattle.input_answers.specs.Asked.{IsLawfulChosen}
use Rattle.input_answers.specs.DueLive.{DueLive, IsScriptOpening}
use Rattle.input_answers.specs.DueReplay.{DueReplay}
use Rattle.input_answers.specs.Played.{Played}

-- the text tells the verdict at the end of the journal that was played, on a document that begins as the script says
pub record TellsEnd (chosen : Chosen) (played : Played) (text : List ℕ) : Type 0 where
  pub opening : Opening
  pub head : Head
  pub has_head : IsHead played.script.text head
  pub opens : IsScriptOpening chosen head played.script.text opening
  pub reported : IsFinalReport opening played.entries text

-- a replay of what `save` wrote ends well, and tells the verdict at the end of that journal
abbrev pub EachSaveReplays : Type 0
EachSaveReplays = (chosen : Chosen) (script_input : List ℕ) (played : Played) (text : List ℕ) → IsLawfulChosen chosen → length script_input ≤ 16777216 → DueLive SavedText chosen script_input played text Done
    → (said : List ℕ) (ends : Status) → DueReplay text said ends → (ends ≡ Done) × TellsEnd chosen played said
