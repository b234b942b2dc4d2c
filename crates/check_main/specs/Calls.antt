-- What the parts of the program say to each other. No public contract speaks of it.
use Rattle.std.specs.Prelude.{◌≡◌, ℕ, ◌+◌, ◌≤◌, false, true, List, length}
use Rattle.std.specs.Io.KnownBytes.{Consumes, IsAtEnd}
use Rattle.knit_ports.specs.declared.limit.TheConstants.{INPUT_LIMIT}
use Rattle.knit_ports.specs.Whole.{GaveAtMost}
use Rattle.machine_profile.specs.declared.Chosen.{Chosen}
use Rattle.command_words.specs.declared.command.Command.{Command}
use Rattle.input_answers.specs.declared.ending.Answer.{Answer}
use Rattle.input_answers.specs.Asked.{AsksCommand, reads_file, reads_input}
use Rattle.knit_base.specs.Lines.{lines_of}
use Rattle.input_answers.specs.Played.{played_by}
use Rattle.check_main.specs.declared.top.Reading.{Reading}
use Rattle.check_main.specs.declared.top.Reading.TheVariants.{Refused, Whole}
use Rattle.check_main.specs.declared.files.FileOutcome.{FileOutcome}
use Rattle.check_main.specs.declared.files.FileOutcome.TheVariants as outcome
use Rattle.check_main.specs.Top.{Called, IsUntouched, SourceUse}

-- the answer is due for the words and for what the source gave
abbrev pub IsCalled : List (List ℕ) → SourceUse → Answer → Type 0
IsCalled words source answer = Called words source (played_by answer.outcome) answer.text.items answer.outcome.status

-- it is due for all words that ask for this command with these limits
abbrev pub IsDueFor : Command → Chosen → SourceUse → Answer → Type 0
IsDueFor command chosen source answer = (words : List (List ℕ)) → AsksCommand words command chosen → IsCalled words source answer

-- no more was read than the command ever does
pub record HasReadFor (command : Command) (source : SourceUse) : Type 0 where
  pub idle : reads_input command ≡ false → IsUntouched source
  pub within : GaveAtMost (INPUT_LIMIT + 1) source.left_before source.left_after

-- the source was read to its end and gave this input, which isn't too large
pub record HasGiven (source : SourceUse) (input : List ℕ) : Type 0 where
  pub bytes : Consumes source.left_before source.left_after input
  pub end : IsAtEnd source.left_after
  pub few : length input ≤ INPUT_LIMIT

-- the source gave this input, or it is refused for each command that reads one
abbrev pub IsReading : SourceUse → Reading → Type 0
IsReading source (Whole input) = HasGiven source input.items
IsReading source (Refused answer) = (command : Command) (chosen : Chosen) → reads_input command ≡ true → IsDueFor command chosen source answer

-- the source was read to its end, and all lines of what it gave were taken
pub record HasTakenInput (T : Type 0) (Took : List (List ℕ) → T → T → Type 0) (start taker : T) (source : SourceUse) : Type 0 where
  pub input : List ℕ
  pub given : HasGiven source input
  pub taken : Took (lines_of input) start taker

-- the lines of what the source gave were taken, or it is refused for each command that reads a file
abbrev pub IsFileOutcome : (T : Type 0) → (List (List ℕ) → T → T → Type 0) → T → SourceUse → FileOutcome T → Type 0
IsFileOutcome T Took start source (outcome.Whole taker) = HasTakenInput T Took start taker source
IsFileOutcome T Took start source (outcome.Refused answer) = (command : Command) (chosen : Chosen) → reads_file command ≡ true → IsDueFor command chosen source answer
