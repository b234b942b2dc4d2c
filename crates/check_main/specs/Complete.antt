-- Where nothing hinders a run of the program, it ends well.
use Rattle.std.specs.Prelude.{◌≡◌, ◌⊎◌, ℕ, ◌≤◌, true, List, length, Some}
use Rattle.knit_base.specs.declared.profile.Profile.{Profile}
use Rattle.knit_base.specs.Lines.{lines_of}
use Rattle.edit_journal.specs.declared.edit.BlockAt.{BlockAt}
use Rattle.edit_journal.specs.declared.edit.Entry.{Entry}
use Rattle.knit_maker.specs.Made.{made_lines}
use Rattle.knit_ports.specs.declared.limit.TheConstants.{INPUT_LIMIT}
use Rattle.knit_ports.specs.Faults.{Rose}
use Rattle.knitout_reader.specs.declared.head.Head.{Head}
use Rattle.carriage_model.specs.declared.verdict.Verdict.{Verdict}
use Rattle.carriage_model.specs.declared.verdict.LoopFact.{LoopFact}
use Rattle.machine_profile.specs.declared.Chosen.{Chosen}
use Rattle.command_words.specs.declared.command.Command.{Command}
use Rattle.command_words.specs.declared.command.Command.TheVariants.{Check, Text, Passes, Live, Save, Groups, Serve, Replay, Tally, Make}
use Rattle.script_reader.specs.declared.command.Script.{Script}
use Rattle.script_reader.specs.declared.step.GroupScript.{GroupScript}
use Rattle.input_answers.specs.declared.outcome.Status.{Status}
use Rattle.input_answers.specs.declared.outcome.Status.TheVariants.{Done, NoMemory}
use Rattle.input_answers.specs.Asked.{AsksCommand, reads_input}
use Rattle.file_run.specs.Bodies.{IsJudged, body_of}
use Rattle.input_answers.specs.CheckReport.{status_of}
use Rattle.input_answers.specs.Due.{BodyFits, HasHead}
use Rattle.input_answers.specs.DueGroups.{HasGroupScript}
use Rattle.input_answers.specs.DueLive.{HasScript}
use Rattle.input_answers.specs.DueReplay.{IsSaved}
use Rattle.input_answers.specs.DueTally.{saved_doc}
use Rattle.tally_tree.specs.Docs.{HasBlocks}
use Rattle.check_main.specs.Top.{SinkUse, SourceUse}

-- the input is a file: its lines are good, and it has a head
pub record IsFile (input : List ℕ) : Type 0 where
  pub head : Head
  pub has : HasHead input head

-- the input is a file whose body, in blocks of this size, isn't too large
pub record IsFileThatFits (size : ℕ) (input : List ℕ) : Type 0 where
  pub file : IsFile input
  pub fits : BodyFits size (length (body_of (lines_of input)))

-- the input is a script, and its opening text has a head and a body that isn't too large
pub record IsScriptThatFits (size : ℕ) (input : List ℕ) : Type 0 where
  pub script : Script
  pub head : Head
  pub has : HasScript input script head
  pub fits : BodyFits size (length (body_of script.text))

-- the same of a script of groups
pub record IsGroupScriptThatFits (size : ℕ) (input : List ℕ) : Type 0 where
  pub script : GroupScript
  pub head : Head
  pub has : HasGroupScript input script head
  pub fits : BodyFits size (length (body_of script.text))

-- the input is a saved text
pub record IsSavedText (input : List ℕ) : Type 0 where
  pub head : List (List ℕ)
  pub profile : Profile
  pub blocks : List BlockAt
  pub entries : List Entry
  pub saved : IsSaved input head profile blocks entries

-- the input is a saved text whose last version has blocks from one place to another
pub record IsSavedTextWith (from to : ℕ) (input : List ℕ) : Type 0 where
  pub text : IsSavedText input
  pub has : HasBlocks (saved_doc text.head text.profile text.blocks text.entries) from to

-- what the command works on is within the grammars and limits: the input, or the program that is made
abbrev pub IsWithinLimits : Command → Chosen → List ℕ → Type 0
IsWithinLimits (Check loops json) chosen input = IsFileThatFits chosen.block input
IsWithinLimits Text chosen input = IsFile input
IsWithinLimits Passes chosen input = IsFileThatFits chosen.block input
IsWithinLimits Live chosen input = IsScriptThatFits chosen.block input
IsWithinLimits Save chosen input = IsScriptThatFits chosen.block input
IsWithinLimits Groups chosen input = IsGroupScriptThatFits chosen.block input
IsWithinLimits (Serve json) chosen input = Unit {0}
IsWithinLimits Replay chosen input = IsSavedText input
IsWithinLimits (Tally from to) chosen input = IsSavedTextWith from to input
IsWithinLimits (Make rows start) chosen input = BodyFits chosen.block (length (body_of (made_lines rows start)))

-- The source had this input left, and told it; the input has at most 16,777,216 bytes. No read failed: each that fails raises the count of faults,
-- up to its last value, and no other changes it.
pub record Gives (source : SourceUse) (input : List ℕ) : Type 0 where
  pub left : source.left_before ≡ Some input
  pub few : length input ≤ INPUT_LIMIT
  pub no_fault : ¬ Rose source.faults_before source.faults_after

-- Nothing hinders the run: the words ask for this command with these limits, what it works on is within the grammars and limits, the source gives
-- it, and no write failed. Of a command that reads nothing the input may be anything.
pub record IsUnhindered (words : List (List ℕ)) (command : Command) (chosen : Chosen) (input : List ℕ) (source : SourceUse) (sink : SinkUse) : Type 0 where
  pub asked : AsksCommand words command chosen
  pub within : IsWithinLimits command chosen input
  pub given : reads_input command ≡ true → Gives source input
  pub no_fault : ¬ Rose sink.faults_before sink.faults_after

-- the status says what one carriage makes of the file: done where it is sound, broken where a line breaks a rule
pub record IsFileStatus (chosen : Chosen) (input : List ℕ) (result : Status) : Type 0 where
  pub head : Head
  pub has : HasHead input head
  pub verdict_given : Verdict
  pub made : List LoopFact
  pub judged : IsJudged chosen.profile head.declared (lines_of input) verdict_given made
  pub ended : result ≡ status_of verdict_given

-- what was asked for was done: for a file that is checked the status is that of its verdict
abbrev pub WasDone : Command → Chosen → List ℕ → Status → Type 0
WasDone (Check loops json) chosen input result = IsFileStatus chosen input result
WasDone Text chosen input result = result ≡ Done
WasDone Passes chosen input result = IsFileStatus chosen input result
WasDone Live chosen input result = result ≡ Done
WasDone Save chosen input result = result ≡ Done
WasDone Groups chosen input result = result ≡ Done
WasDone (Serve json) chosen input result = Unit {0}
WasDone Replay chosen input result = result ≡ Done
WasDone (Tally from to) chosen input result = result ≡ Done
WasDone (Make rows start) chosen input result = result ≡ Done

-- the run ended well: what was asked for was done, or memory ran out, which may always be
abbrev pub EndsWell : Command → Chosen → List ℕ → Status → Type 0
EndsWell command chosen input result = WasDone command chosen input result ⊎ (result ≡ NoMemory)
