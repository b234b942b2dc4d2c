-- What the whole program does: the report that is due, the status, and the causes of every other end.
use Rattle.std.specs.Prelude.{◌≡◌, ℕ, ◌+◌, ◌≤◌, Bool, false, true, List, length}
use Rattle.std.specs.declared.option.Option.{Option}
use Rattle.std.specs.Io.KnownBytes.{Appends, Consumes, IsAtEnd, Keeps}
use Rattle.knit_ports.specs.declared.limit.TheConstants.{INPUT_LIMIT}
use Rattle.knit_ports.specs.Faults.{Rose}
use Rattle.knit_ports.specs.Pieces.{Piece}
use Rattle.knit_ports.specs.Whole.{GaveAtMost, TookFront}
use Rattle.machine_profile.specs.declared.Chosen.{Chosen}
use Rattle.command_words.specs.declared.command.Command.{Command}
use Rattle.command_words.specs.declared.command.Command.TheVariants.{Groups, Make, Replay, Serve, Tally}
use Rattle.verdict_report.specs.declared.refusal.Refusal.TheVariants as refusal
use Rattle.verdict_report.specs.Refusals.{refusal_text}
use Rattle.input_answers.specs.declared.outcome.Status.{Status}
use Rattle.input_answers.specs.declared.outcome.Status.TheVariants.{Usage, ReadFault, TooLarge, WriteFault, NoMemory}
use Rattle.input_answers.specs.Asked.{AsksCommand, AreRefused, reads_file, reads_input, reads_script}
use Rattle.input_answers.specs.Due.{Due}
use Rattle.input_answers.specs.DueGroups.{DueGroups}
use Rattle.input_answers.specs.DueLive.{DueLive}
use Rattle.input_answers.specs.DueMade.{DueMade}
use Rattle.input_answers.specs.DueReplay.{DueReplay}
use Rattle.input_answers.specs.DueTally.{DueTally}
use Rattle.input_answers.specs.LiveText.{output_of}
use Rattle.input_answers.specs.Played.{Played, nothing_played}
use Rattle.live_talk.specs.Served.{Served}

-- the source before and after a run: the bytes that it has left, where it tells them, and how many of its reads have failed
pub record SourceUse : Type 0 where
  pub left_before : Option (List ℕ)
  pub left_after : Option (List ℕ)
  pub faults_before : ℕ
  pub faults_after : ℕ

-- what became of a source that tells these things of itself
abbrev pub source_use : {S : Type 0} → (S → Option (List ℕ)) → (S → ℕ) → S → S → SourceUse
source_use left faults old new = record { left_before = left old; left_after = left new; faults_before = faults old; faults_after = faults new }

-- no read was tried
pub record IsUntouched (source : SourceUse) : Type 0 where
  pub left : source.left_after ≡ source.left_before
  pub faults : source.faults_after ≡ source.faults_before

-- the sink before and after a run: the bytes that it has taken, where it tells them, and how many of its writes have failed
pub record SinkUse : Type 0 where
  pub taken_before : Option (List ℕ)
  pub taken_after : Option (List ℕ)
  pub faults_before : ℕ
  pub faults_after : ℕ

-- what became of a sink that tells these things of itself
abbrev pub sink_use : {K : Type 0} → (K → Option (List ℕ)) → (K → ℕ) → K → K → SinkUse
sink_use taken faults old new = record { taken_before = taken old; taken_after = taken new; faults_before = faults old; faults_after = faults new }

-- what sessions did, the text and the status that are due for the words and for what the source gave
pub data Called (words : List (List ℕ)) (source : SourceUse) : Played → List ℕ → Status → Type 0 where
  -- the words are refused, and the source isn't touched
  usage : AreRefused words → IsUntouched source → Called words source nothing_played (refusal_text refusal.Usage) Usage
  -- a program is made, and the source isn't touched
  made : (rows start : ℕ) (chosen : Chosen) (text : List ℕ) (status : Status) → AsksCommand words (Make rows start) chosen → IsUntouched source
      → DueMade chosen rows start text status → Called words source nothing_played text status
  -- a file was read to its end
  whole : (command : Command) (chosen : Chosen) (input text : List ℕ) (status : Status) → AsksCommand words command chosen → reads_file command ≡ true
      → Consumes source.left_before source.left_after input → IsAtEnd source.left_after → length input ≤ INPUT_LIMIT
      → Due command chosen input text status → Called words source nothing_played text status
  -- a script was read to its end
  live : (command : Command) (chosen : Chosen) (input : List ℕ) (played : Played) (text : List ℕ) (status : Status) → AsksCommand words command chosen → reads_script command ≡ true
      → Consumes source.left_before source.left_after input → IsAtEnd source.left_after → length input ≤ INPUT_LIMIT
      → DueLive (output_of command) chosen input played text status → Called words source played text status
  -- a script of groups was read to its end
  groups : (chosen : Chosen) (input : List ℕ) (played : Played) (text : List ℕ) (status : Status) → AsksCommand words Groups chosen
      → Consumes source.left_before source.left_after input → IsAtEnd source.left_after → length input ≤ INPUT_LIMIT
      → DueGroups chosen input played text status → Called words source played text status
  -- a saved text was read to its end
  replay : (chosen : Chosen) (input text : List ℕ) (status : Status) → AsksCommand words Replay chosen
      → Consumes source.left_before source.left_after input → IsAtEnd source.left_after → length input ≤ INPUT_LIMIT
      → DueReplay input text status → Called words source nothing_played text status
  -- a saved text was read to its end, of which a tally is asked
  tally : (from to : ℕ) (chosen : Chosen) (input text : List ℕ) (status : Status) → AsksCommand words (Tally from to) chosen
      → Consumes source.left_before source.left_after input → IsAtEnd source.left_after → length input ≤ INPUT_LIMIT
      → DueTally from to input text status → Called words source nothing_played text status
  -- the source was read to one byte past the limit
  large : (command : Command) (chosen : Chosen) (input : List ℕ) → AsksCommand words command chosen → reads_input command ≡ true
      → Consumes source.left_before source.left_after input → length input ≡ INPUT_LIMIT + 1
      → Called words source nothing_played (refusal_text refusal.TooManyBytes) TooLarge
  -- a read failed before that
  broke : (command : Command) (chosen : Chosen) → AsksCommand words command chosen → reads_input command ≡ true
      → Rose source.faults_before source.faults_after → GaveAtMost INPUT_LIMIT source.left_before source.left_after
      → Called words source nothing_played (refusal_text refusal.ReadFault) ReadFault

-- how much was read: nothing where the words are refused or ask for no input, and never more than a byte past the limit
pub record HasReadWithin (words : List (List ℕ)) (source : SourceUse) : Type 0 where
  pub refused : AreRefused words → IsUntouched source
  pub idle : (command : Command) (chosen : Chosen) → AsksCommand words command chosen → reads_input command ≡ false → IsUntouched source
  pub within : GaveAtMost (INPUT_LIMIT + 1) source.left_before source.left_after

-- what the program did, what its sessions did, and the status with which it ended
pub data Ran (words : List (List ℕ)) (source : SourceUse) (sink : SinkUse) (played : Played) (result : Status) : Type 0 where
  -- the sink took the whole text that is due, no write failed, and the status is the one that is due
  written : (text : List ℕ) → Called words source played text result → Appends sink.taken_before sink.taken_after text
      → sink.faults_after ≡ sink.faults_before → Ran words source sink played result
  -- a write failed, and the sink took a front of the text that is due
  cut_short : (text : List ℕ) (status : Status) → Called words source played text status → result ≡ WriteFault
      → Rose sink.faults_before sink.faults_after → TookFront sink.taken_before sink.taken_after text → Ran words source sink played result
  -- memory ran out, the sink took nothing, and no more was read than ever is
  stopped : result ≡ NoMemory → played ≡ nothing_played → Keeps sink.taken_before sink.taken_after → HasReadWithin words source → Ran words source sink played result
  -- a conversation was answered: there are pieces that were heard and said in step, with this status; which, and which calls failed, the port told alone
  conversed : (json : Bool) (chosen : Chosen) (pieces : List Piece) → AsksCommand words (Serve json) chosen → played ≡ nothing_played → Served json chosen pieces result
      → Ran words source sink played result
