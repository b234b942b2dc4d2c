-- Which script of groups the lines of a file spell.
--
-- A script of groups is the line `groups 1`, the text lines of its opening text, and its sessions. A session is the line `session` and its steps. A step is a command,
-- a group, which is the line `group`, 1 to 64 edits of blocks and the line `end`, or the line `undo`. Lines that say nothing are as if they weren't there.
use Rattle.std.specs.Prelude.{◌≡◌, ◌⊎◌, ℕ, ◌+◌, ◌<◌, ◌≤◌, Bool, true, false, ◌&&◌, nat_le, nat_lt, List, [], ◌∷◌, ◌++◌, length, map, filter, Option, Some, None, if◌then◌else◌}
use Rattle.std.specs.List.{flat_map, list_all}
use Rattle.script_reader.specs.Grammar.{Grammar, EndsEarly, HasOtherForm, IsOutside}
use Rattle.script_reader.specs.Script.{adds_in, all_known, command_line_in, command_statements, is_put_head, last_is, last_session, last_takes_text, names_known, session_cause, takes_text}
use Rattle.script_reader.specs.Statements.{Statement, Nothing, Text, Session, Command, Header, Mark, Nonsense, is_groups, says_something, statements_of}
use Rattle.script_reader.specs.declared.command.Command as declared
use Rattle.script_reader.specs.declared.fault.Cause.{Cause}
use Rattle.script_reader.specs.declared.fault.Cause.TheVariants.{BadLine, NoGroups, NoOwn}
use Rattle.script_reader.specs.declared.fault.ScriptFault.{ScriptFault}
use Rattle.script_reader.specs.declared.fault.ScriptFault.TheVariants.{At, NoMemory}
use Rattle.script_reader.specs.declared.line.CommandLine.{CommandLine}
use Rattle.script_reader.specs.declared.line.CommandLine.TheVariants as command_lines
use Rattle.script_reader.specs.declared.line.Mark as marks
use Rattle.script_reader.specs.declared.line.Mark.TheVariants as mark
use Rattle.script_reader.specs.declared.step.GroupScript.{GroupScript}
use Rattle.script_reader.specs.declared.step.Step.{Step}
use Rattle.script_reader.specs.declared.step.Step.TheVariants as step

-- what a step says
abbrev pub step_statements : Step → List Statement
step_statements (step.One command) = command_statements command
step_statements (step.Group commands) = Mark mark.Group ∷ flat_map command_statements commands ++ Mark mark.End ∷ []
step_statements step.Undo = Mark mark.Undo ∷ []

-- a session is the line `session`, and its steps
abbrev pub steps_statements : List Step → List Statement
steps_statements steps = Session ∷ flat_map step_statements steps

-- what the lines behind the first one say: the opening text, and the sessions
abbrev pub group_statements : GroupScript → List Statement
group_statements script = map Text script.text ++ flat_map steps_statements script.sessions

-- the commands of a step, and of the steps of a session
abbrev pub commands_of_step : Step → List declared.Command
commands_of_step (step.One command) = command ∷ []
commands_of_step (step.Group commands) = commands
commands_of_step step.Undo = []

abbrev pub commands_of_steps : List Step → List declared.Command
commands_of_steps steps = flat_map commands_of_step steps

-- the command edits a block
abbrev pub is_edit_line : CommandLine → Bool
is_edit_line (command_lines.Look name) = false
is_edit_line (command_lines.Put name) = true
is_edit_line (command_lines.Add place) = true
is_edit_line (command_lines.Cut name) = true
is_edit_line (command_lines.LoopAt line) = false
is_edit_line command_lines.Verdict = false
is_edit_line command_lines.LookHead = false
is_edit_line command_lines.PutHead = false

abbrev pub is_edit : declared.Command → Bool
is_edit command = is_edit_line (command_line_in command)

-- a group has 1 to 64 commands, each an edit of a block
abbrev pub is_lawful_step : Step → Bool
is_lawful_step (step.One command) = true
is_lawful_step (step.Group commands) = nat_lt 0 (length commands) && nat_le (length commands) 64 && list_all is_edit commands
is_lawful_step step.Undo = true

-- each command of the session names blocks of add commands before it
abbrev pub are_known : List Step → Bool
are_known steps = all_known 0 (commands_of_steps steps)

-- the lines spell this script
pub record SpellsGroups (first : List ℕ) (lines : List (List ℕ)) (script : GroupScript) : Type 0 where
  pub begun : is_groups first ≡ true
  pub said : filter says_something (statements_of lines) ≡ group_statements script
  pub few : length script.sessions ≤ 64
  pub known : list_all are_known script.sessions ≡ true
  pub groups : list_all (list_all is_lawful_step) script.sessions ≡ true

-- these are the lines of this script
abbrev pub IsGroupScript : List (List ℕ) → GroupScript → Type 0
IsGroupScript [] script = ⊥
IsGroupScript (first ∷ lines) script = SpellsGroups first lines script

-- a script so far: behind its last session, a group may have begun that isn't closed, with the commands that it has so far
pub record OpenScript : Type 0 where
  pub script : GroupScript
  pub group : Option (List declared.Command)

-- what an open group says
abbrev pub open_group_statements : Option (List declared.Command) → List Statement
open_group_statements None = []
open_group_statements (Some commands) = Mark mark.Group ∷ flat_map command_statements commands

abbrev pub open_statements : OpenScript → List Statement
open_statements so_far = group_statements so_far.script ++ open_group_statements so_far.group

-- how many add commands the last session has, those of an open group not counted
abbrev pub last_adds : List (List Step) → ℕ
last_adds sessions = adds_in (commands_of_steps (last_session sessions))

-- an open group is in a session, and its commands, which are at most 64, are edits that name known blocks
pub record IsLawfulGroup (sessions : List (List Step)) (commands : List declared.Command) : Type 0 where
  pub within : 0 < length sessions
  pub few : length commands ≤ 64
  pub edits : list_all is_edit commands ≡ true
  pub known : all_known (last_adds sessions) commands ≡ true

abbrev pub IsLawfulEnd : List (List Step) → Option (List declared.Command) → Type 0
IsLawfulEnd sessions None = Unit {0}
IsLawfulEnd sessions (Some commands) = IsLawfulGroup sessions commands

-- at most 64 sessions, whose commands name known blocks and whose groups are lawful
pub record IsLawfulOpen (so_far : OpenScript) : Type 0 where
  pub few : length so_far.script.sessions ≤ 64
  pub known : list_all are_known so_far.script.sessions ≡ true
  pub groups : list_all (list_all is_lawful_step) so_far.script.sessions ≡ true
  pub group : IsLawfulEnd so_far.script.sessions so_far.group

-- text lines may stand behind the step
abbrev pub step_takes_text : Step → Bool
step_takes_text (step.One command) = takes_text (command_line_in command)
step_takes_text (step.Group commands) = false
step_takes_text step.Undo = false

-- why a text can't stand behind these sessions, where no group is open: the last step takes none
abbrev pub group_text_cause : List (List Step) → Option Cause
group_text_cause [] = None
group_text_cause (session ∷ sessions) = if last_is step_takes_text (last_session (session ∷ sessions)) then None else Some BadLine

-- why a group, or `undo`, can't stand there: there is no session
abbrev pub step_cause : List (List Step) → Option Cause
step_cause [] = Some BadLine
step_cause (session ∷ sessions) = None

-- why a command can't stand there: there is no session, or the name is that of an add command to come
abbrev pub group_command_cause : List (List Step) → CommandLine → Option Cause
group_command_cause [] command_line = Some BadLine
group_command_cause (session ∷ sessions) command_line = if names_known (last_adds (session ∷ sessions)) command_line then None else Some NoOwn

-- why a mark can't stand there: `end` closes nothing
abbrev pub mark_cause : List (List Step) → marks.Mark → Option Cause
mark_cause sessions mark.Group = step_cause sessions
mark_cause sessions mark.End = Some BadLine
mark_cause sessions mark.Undo = step_cause sessions

-- why a line that says this can't stand behind the sessions, where no group is open
abbrev pub closed_cause : List (List Step) → Statement → Option Cause
closed_cause sessions Nothing = None
closed_cause sessions (Text text) = group_text_cause sessions
closed_cause sessions Session = session_cause sessions
closed_cause sessions (Command command_line) = if is_put_head command_line then Some BadLine else group_command_cause sessions command_line
closed_cause sessions (Header names) = step_cause sessions
closed_cause sessions (Mark mark) = mark_cause sessions mark
closed_cause sessions Nonsense = Some BadLine

-- why a command can't stand in an open group, behind so many add commands and these commands of the group: it is no edit of a block, or the 65th, or the name is that of
-- an add command to come
abbrev pub edit_cause : ℕ → List declared.Command → CommandLine → Option Cause
edit_cause adds commands command_line =
    if is_edit_line command_line && nat_lt (length commands) 64 then (if names_known (adds + adds_in commands) command_line then None else Some NoOwn) else Some BadLine

-- why a mark can't stand in an open group: only `end` can, behind an edit
abbrev pub group_mark_cause : List declared.Command → marks.Mark → Option Cause
group_mark_cause commands mark.Group = Some BadLine
group_mark_cause commands mark.End = if nat_lt 0 (length commands) then None else Some BadLine
group_mark_cause commands mark.Undo = Some BadLine

-- why a line that says this can't stand in an open group
abbrev pub group_cause : ℕ → List declared.Command → Statement → Option Cause
group_cause adds commands Nothing = None
group_cause adds commands (Text text) = if last_takes_text commands then None else Some BadLine
group_cause adds commands Session = Some BadLine
group_cause adds commands (Command command_line) = edit_cause adds commands command_line
group_cause adds commands (Header names) = Some BadLine
group_cause adds commands (Mark mark) = group_mark_cause commands mark
group_cause adds commands Nonsense = Some BadLine

-- why a line that says this can't stand behind the lines of the script
abbrev pub cause_behind : List (List Step) → Option (List declared.Command) → Statement → Option Cause
cause_behind sessions None said = closed_cause sessions said
cause_behind sessions (Some commands) said = group_cause (last_adds sessions) commands said

abbrev pub group_statement_cause : OpenScript → Statement → Option Cause
group_statement_cause so_far said = cause_behind so_far.script.sessions so_far.group said

-- why the lines can't end there: a group is open
abbrev pub open_cause : Option (List declared.Command) → Option Cause
open_cause None = None
open_cause (Some commands) = Some BadLine

abbrev pub group_grammar : Grammar
group_grammar = record { SoFar = OpenScript; says = open_statements; IsLawful = IsLawfulOpen; cause_of = group_statement_cause; end_cause = λ so_far. open_cause so_far.group }

-- the line with this number is the first that can't stand behind those before it
abbrev pub IsOutsideGroups : List (List ℕ) → ℕ → Cause → Type 0
IsOutsideGroups lines number cause = IsOutside group_grammar IsGroupScript lines number cause

-- the lines end within a group
abbrev pub EndsInGroup : List (List ℕ) → ℕ → Cause → Type 0
EndsInGroup lines number cause = EndsEarly group_grammar IsGroupScript lines number cause

-- the first line isn't that of a script of groups, or there is none
abbrev pub HasNoGroups : List (List ℕ) → ℕ → Cause → Type 0
HasNoGroups lines number cause = HasOtherForm IsGroupScript NoGroups lines number cause

-- the refusal names the first line outside the grammar, or the line behind the last where a group isn't closed, and the cause; want of memory says nothing of the lines
abbrev pub IsGroupRefusal : List (List ℕ) → ScriptFault → Type 0
IsGroupRefusal lines (At number cause) = HasNoGroups lines number cause ⊎ (IsOutsideGroups lines number cause ⊎ EndsInGroup lines number cause)
IsGroupRefusal lines NoMemory = Unit {0}
