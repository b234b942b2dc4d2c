-- A file that was taken by a reader while it was read, and what it comes to. No public contract of the program speaks of it.
use Rattle.std.specs.Prelude.{◌≡◌, ℕ, ◌≤◌, Bool, true, List, length}
use Rattle.knit_base.specs.Lines.{lines_of}
use Rattle.knitout_reader.specs.declared.file_reader.FileReader.{FileReader}
use Rattle.knitout_reader.specs.FileLines.{HasReadLines}
use Rattle.knitout_writer.specs.declared.text_writer.TextWriter.{TextWriter}
use Rattle.knitout_writer.specs.WrittenFiles.{HasSeen, HasWritten}
use Rattle.file_run.specs.declared.runner.Runner.{Runner}
use Rattle.file_run.specs.Bodies.{body_of}
use Rattle.file_run.specs.Runs.{HasRunFile, IsRun, StandsReady, TakingReads}
use Rattle.machine_profile.specs.declared.Chosen.{Chosen}
use Rattle.command_words.specs.declared.command.Command.{Command}
use Rattle.input_answers.specs.declared.ending.Ending.{Ending}
use Rattle.input_answers.specs.declared.file_outcome.FileRun.{FileRun}
use Rattle.input_answers.specs.declared.file_outcome.RunOutcome.{RunOutcome}
use Rattle.input_answers.specs.declared.file_outcome.RunOutcome.TheVariants.{Ran, Refused}
use Rattle.input_answers.specs.Due.{Due, BodyFits, HasHead, checks_body}

-- a reader that began so has taken these lines, which its runner carries out
abbrev pub HasRunLines : (T : Type 0) → TakingReads T → List (List ℕ) → FileReader (Runner T) → FileReader (Runner T) → Type 0
HasRunLines T Has lines start now = HasReadLines (Runner T) (λ seen. StandsReady T) (HasRunFile T Has) lines start now

-- a reader that began so has taken these lines, whose canonical text its writer writes
abbrev pub HasWrittenLines : List (List ℕ) → FileReader TextWriter → FileReader TextWriter → Type 0
HasWrittenLines lines start now = HasReadLines TextWriter HasSeen HasWritten lines start now

-- a reader whose runner begins on the machine that was chosen, and keeps the loops where they are asked for
pub record IsRunnerFor (T : Type 0) (loops : Bool) (chosen : Chosen) (start : FileReader (Runner T)) : Type 0 where
  pub profile : start.work.profile ≡ chosen.profile
  pub way : start.work.with_loops ≡ loops

-- a reader whose writer writes for the machine that was chosen
abbrev pub IsWriterFor : Chosen → FileReader TextWriter → Type 0
IsWriterFor chosen start = start.work.profile ≡ chosen.profile

-- the reader has taken the lines of an input
pub record HasRunInput (T : Type 0) (Has : TakingReads T) (reader : FileReader (Runner T)) : Type 0 where
  pub start : FileReader (Runner T)
  pub input : List ℕ
  pub small : length input ≤ 16777216
  pub taken : HasRunLines T Has (lines_of input) start reader

-- the reader has taken the lines of an input, to write it
pub record HasWrittenInput (reader : FileReader TextWriter) : Type 0 where
  pub start : FileReader TextWriter
  pub input : List ℕ
  pub small : length input ≤ 16777216
  pub taken : HasWrittenLines (lines_of input) start reader

-- a file whose body isn't too large was carried out
pub record IsFileRun (T : Type 0) (Has : TakingReads T) (loops : Bool) (chosen : Chosen) (input : List ℕ) (file : FileRun T) : Type 0 where
  pub headed : HasHead input file.head
  pub fits : BodyFits chosen.block (length (body_of (lines_of input)))
  pub counted : file.lines ≡ length (lines_of input)
  pub ran : IsRun T Has loops chosen.profile file.head.declared (lines_of input) file.run

-- what becomes of a file whose body is to be checked: it was carried out, or what is due is that its head is refused, or that it is too large
abbrev pub IsRunOutcome : (T : Type 0) → TakingReads T → Bool → Chosen → List ℕ → RunOutcome T → Type 0
IsRunOutcome T Has loops chosen input (Ran file) = IsFileRun T Has loops chosen input file
IsRunOutcome T Has loops chosen input (Refused ending) = (command : Command) → checks_body command ≡ true
    → Due command chosen input ending.text.items ending.status
