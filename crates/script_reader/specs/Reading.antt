-- What the functions within tell each other. The proofs alone speak of it.
use Rattle.std.specs.Prelude.{◌≡◌, ◌≢◌, ◌⊎◌, ℕ, ◌+◌, ◌<◌, ◌≤◌, Bool, true, false, ◌&&◌, List, [], ◌∷◌, ◌++◌, length, drop, filter, map, get_or, Option, Some}
use Rattle.std.specs.List.{list_all}
use Rattle.knit_base.specs.Lines.{IsLine}
use Rattle.script_reader.specs.Grammar.{Grammar}
use Rattle.script_reader.specs.Groups.{OpenScript, are_known, commands_of_step, is_edit, is_edit_line, is_lawful_step, step_statements, step_takes_text}
use Rattle.script_reader.specs.Places.{IsAtSaid, Say, StandsBehind}
use Rattle.script_reader.specs.Script.{adds_in, all_known, command_line_in, command_statements, names_known, takes_text, text_of_command}
use Rattle.script_reader.specs.Statements.{Statement, Text, is_text_line, kind_of, says_something, text_ahead, told_from}
use Rattle.script_reader.specs.declared.command.Command as declared
use Rattle.script_reader.specs.declared.command.Script.{Script}
use Rattle.script_reader.specs.declared.fault.Cause.{Cause}
use Rattle.script_reader.specs.declared.fault.ScriptFault.{ScriptFault}
use Rattle.script_reader.specs.declared.fault.ScriptFault.TheVariants.{At, NoMemory}
use Rattle.script_reader.specs.declared.line.CommandLine.{CommandLine}
use Rattle.script_reader.specs.declared.line.Kind.{Kind}
use Rattle.script_reader.specs.declared.line.Kind.TheVariants as kind
use Rattle.script_reader.specs.declared.line.Mark.TheVariants as mark
use Rattle.script_reader.specs.declared.step.Step.{Step}

abbrev pub script_of : List (List ℕ) → List (List declared.Command) → Script
script_of text sessions = record { text = text; sessions = sessions }

abbrev pub open_of : List (List ℕ) → List (List Step) → Option (List declared.Command) → OpenScript
open_of text sessions group = record { script = record { text = text; sessions = sessions }; group = group }

-- the line is a text line
pub record IsTextLine (line : List ℕ) : Type 0 where
  pub begins : is_text_line line ≡ true
  pub is_line : IsLine line

-- the line at this place, if there is one, is neither skipped nor a text line
pub record IsAtHeading (lines : List (List ℕ)) (at : ℕ) : Type 0 where
  pub said : IsAtSaid lines at
  pub no_text : at < length lines → kind_of (get_or lines at []) ≢ kind.Text

-- the line at this place, if there is one, begins a session
abbrev pub IsAtSession : List (List ℕ) → ℕ → Type 0
IsAtSession lines at = at < length lines → kind_of (get_or lines at []) ≡ kind.Session

-- the lines from the one place up to the other say nothing
pub record IsPassed (lines : List (List ℕ)) (start next : ℕ) : Type 0 where
  pub low : start ≤ next
  pub high : next ≤ length lines
  pub front : List Statement
  pub silent : filter says_something front ≡ []
  pub told : (wants : Bool) → told_from wants (drop start lines) ≡ front ++ told_from wants (drop next lines)
  pub ahead : text_ahead (drop start lines) ≡ text_ahead (drop next lines)

-- a command with this line, whose text stands between the two places
pub record IsCommandBehind (lines : List (List ℕ)) (start : ℕ) (command_line : CommandLine) (command : declared.Command) (next : ℕ) : Type 0 where
  pub line_is : command_line_in command ≡ command_line
  pub says : Say lines start next (map Text (text_of_command command))
  pub heading : takes_text command_line ≡ true → IsAtHeading lines next

-- The line at the place `at` is that of this command, behind so many add commands of the session, and its text ends at the place `next`.
pub record IsCommandRead (lines : List (List ℕ)) (at adds : ℕ) (command : declared.Command) (next : ℕ) : Type 0 where
  pub begins : kind_of (get_or lines at []) ≢ kind.Skipped
  pub says : Say lines at next (command_statements command)
  pub known : names_known adds (command_line_in command) ≡ true
  pub heading : takes_text (command_line_in command) ≡ true → IsAtHeading lines next

-- what a session or a group is made of: what a part says, its commands, whether it is lawful, and whether text lines may stand behind it
pub record PartGrammar (X : Type 0) : Type 0 where
  pub says : X → List Statement
  pub commands : X → List declared.Command
  pub is_lawful : X → Bool
  pub takes_text : X → Bool

-- the commands of a session, the edits of a group, and the steps of a session
abbrev pub commands_parts : PartGrammar declared.Command
commands_parts = record { says = command_statements; commands = λ command. command ∷ []; is_lawful = λ command. true; takes_text = λ command. takes_text (command_line_in command) }

abbrev pub edits_parts : PartGrammar declared.Command
edits_parts = record { says = command_statements; commands = λ command. command ∷ []; is_lawful = is_edit; takes_text = λ command. takes_text (command_line_in command) }

abbrev pub steps_parts : PartGrammar Step
steps_parts = record { says = step_statements; commands = commands_of_step; is_lawful = is_lawful_step; takes_text = step_takes_text }

-- the part whose first line stands at the place `at`, behind so many add commands of the session, and the place behind it
pub record IsScriptPartAt {X : Type 0} (parts : PartGrammar X) (lines : List (List ℕ)) (at adds : ℕ) (part : X) (next : ℕ) : Type 0 where
  pub low : at < next
  pub says : Say lines at next (parts.says part)
  pub known : all_known adds (parts.commands part) ≡ true
  pub lawful : parts.is_lawful part ≡ true
  pub few : adds_in (parts.commands part) + at ≤ next
  pub heading : parts.takes_text part ≡ true → IsAtHeading lines next

abbrev pub IsStepAt : List (List ℕ) → ℕ → ℕ → Step → ℕ → Type 0
IsStepAt lines at adds step next = IsScriptPartAt steps_parts lines at adds step next

-- a session of steps
abbrev pub is_good_session : List Step → Bool
is_good_session steps = are_known steps && list_all is_lawful_step steps

-- the line is that of an edit of a block
abbrev pub is_edit_kind : Kind → Bool
is_edit_kind kind.Skipped = false
is_edit_kind kind.Text = false
is_edit_kind kind.Session = false
is_edit_kind (kind.Command command_line) = is_edit_line command_line
is_edit_kind kind.Header = false
is_edit_kind (kind.Mark mark) = false
is_edit_kind kind.Other = false

-- the line is `end`
abbrev pub is_end_kind : Kind → Bool
is_end_kind kind.Skipped = false
is_end_kind kind.Text = false
is_end_kind kind.Session = false
is_end_kind (kind.Command command_line) = false
is_end_kind kind.Header = false
is_end_kind (kind.Mark mark.Group) = false
is_end_kind (kind.Mark mark.End) = true
is_end_kind (kind.Mark mark.Undo) = false
is_end_kind kind.Other = false

-- behind what was read before the place `start`, the line with this number is the first that can't stand there
pub record StopsBehind (grammar : Grammar) (before : grammar.SoFar) (lines : List (List ℕ)) (start number : ℕ) (cause : Cause) : Type 0 where
  pub so_far : grammar.SoFar
  pub lawful : grammar.IsLawful so_far
  pub place : ℕ
  pub said : List Statement
  pub here : Statement
  pub stands : StandsBehind lines start place said here
  pub grows : grammar.says so_far ≡ grammar.says before ++ said
  pub counted : number ≡ place + 1
  pub is_cause : grammar.cause_of so_far here ≡ Some cause

-- behind what was read before the place `start`, the lines end where they can't
pub record EndsBehind (grammar : Grammar) (before : grammar.SoFar) (lines : List (List ℕ)) (start number : ℕ) (cause : Cause) : Type 0 where
  pub so_far : grammar.SoFar
  pub lawful : grammar.IsLawful so_far
  pub said : List Statement
  pub says : Say lines start (length lines) said
  pub grows : grammar.says so_far ≡ grammar.says before ++ said
  pub counted : number ≡ length lines + 1
  pub is_cause : grammar.end_cause so_far ≡ Some cause

-- the refusal of the lines from the place `start` on, behind what was read before; want of memory may come with any
abbrev pub IsGrammarStop : (grammar : Grammar) → grammar.SoFar → List (List ℕ) → ℕ → ScriptFault → Type 0
IsGrammarStop grammar before lines start (At number cause) = StopsBehind grammar before lines start number cause ⊎ EndsBehind grammar before lines start number cause
IsGrammarStop grammar before lines start NoMemory = Unit {0}
