-- The command at a place of the lines of a script, with its text, or why none can be read there.
use Rattle.std.specs.Prelude.{◌≡◌, ◌≢◌, ◌⊎◌, ℕ, ◌+◌, ◌<◌, true, List, [], ◌∷◌, length, get_or, Option, Some, None, if◌then◌else◌}
use Rattle.script_reader.specs.Places.{IsAtSaid, Say, StandsBehind}
use Rattle.script_reader.specs.Script.{command_line_in, command_statements, is_put_head, names_known, takes_text}
use Rattle.script_reader.specs.Statements.{Statement, Nothing, Text, Session, Command, Header, Mark, Nonsense, kind_of}
use Rattle.script_reader.specs.declared.command.Command as declared
use Rattle.script_reader.specs.declared.fault.Cause.{Cause}
use Rattle.script_reader.specs.declared.fault.Cause.TheVariants.{BadLine, NoOwn}
use Rattle.script_reader.specs.declared.fault.ScriptFault.{ScriptFault}
use Rattle.script_reader.specs.declared.fault.ScriptFault.TheVariants.{At, NoMemory}
use Rattle.script_reader.specs.declared.line.Kind.TheVariants as kind

-- The line at the place `at` is that of this command, behind so many add commands of the session. Its text stands behind it, and at the place `next`, if there is a
-- line, one that isn't skipped, and no text line if the command takes a text.
pub record IsCommandAt (lines : List (List ℕ)) (at adds : ℕ) (command : declared.Command) (next : ℕ) : Type 0 where
  pub begins : kind_of (get_or lines at []) ≢ kind.Skipped
  pub says : Say lines at next (command_statements command)
  pub known : names_known adds (command_line_in command) ≡ true
  pub ends : IsAtSaid lines next
  pub text_ends : takes_text (command_line_in command) ≡ true → next < length lines → kind_of (get_or lines next []) ≢ kind.Text

-- why a line that says this begins no command, behind so many add commands
abbrev pub begin_cause : ℕ → Statement → Option Cause
begin_cause adds Nothing = Some BadLine
begin_cause adds (Text text) = Some BadLine
begin_cause adds Session = Some BadLine
begin_cause adds (Command command_line) = if is_put_head command_line then Some BadLine else (if names_known adds command_line then None else Some NoOwn)
begin_cause adds (Header names) = None
begin_cause adds (Mark mark) = Some BadLine
begin_cause adds Nonsense = Some BadLine

-- the line at the place `at` begins no command
pub record BeginsNoCommand (lines : List (List ℕ)) (at adds number : ℕ) (cause : Cause) : Type 0 where
  pub here : Statement
  pub stands : StandsBehind lines at at [] here
  pub counted : number ≡ at + 1
  pub is_cause : begin_cause adds here ≡ Some cause

-- it is `put head`, and the text line behind it, which has this number, gives no names
pub record GivesNoNames (lines : List (List ℕ)) (at number : ℕ) (cause : Cause) : Type 0 where
  pub place : ℕ
  pub stands : StandsBehind lines at place (Header [] ∷ []) Nonsense
  pub counted : number ≡ place + 1
  pub is_cause : cause ≡ BadLine

-- the first line that doesn't fit a command at the place `at`, and why; want of memory says nothing of the lines
abbrev pub IsNoCommand : List (List ℕ) → ℕ → ℕ → ScriptFault → Type 0
IsNoCommand lines at adds (At number cause) = BeginsNoCommand lines at adds number cause ⊎ GivesNoNames lines at number cause
IsNoCommand lines at adds NoMemory = Unit {0}
