-- Which script the lines of a file spell.
--
-- A script is the line `live 1`, the text lines of its opening text, and its sessions. A session is the line `session` and its
-- commands. A command is its line and, behind `put` and `add`, its text lines. Lines that say nothing are as if they weren't there.
use Rattle.std.specs.Prelude.{◌≡◌, ◌⊎◌, ℕ, ◌+◌, ◌≤◌, Bool, true, false, ◌&&◌, nat_le, nat_lt, List, [], ◌∷◌, ◌++◌, length, map, filter, Option, Some, None, if◌then◌else◌}
use Rattle.std.specs.List.{flat_map, list_all, sum_by}
use Rattle.edit_journal.specs.declared.edit.BlockName.{BlockName}
use Rattle.edit_journal.specs.declared.edit.BlockName.TheVariants.{Id, Own}
pub use Rattle.script_reader.specs.Grammar.{LacksHeader}
use Rattle.script_reader.specs.Grammar.{Grammar, BeginNone, HasOtherForm, IsOutside}
pub use Rattle.script_reader.specs.Statements.{says_something}
use Rattle.script_reader.specs.Statements.{Statement, Nothing, Text, Session, Command, Header, Mark, Nonsense, is_live, statements_of}
use Rattle.script_reader.specs.declared.command.Command as declared
use Rattle.script_reader.specs.declared.command.Command.TheVariants as command
use Rattle.script_reader.specs.declared.command.Place.{Place}
use Rattle.script_reader.specs.declared.command.Place.TheVariants.{Start, After}
use Rattle.script_reader.specs.declared.command.Script.{Script}
use Rattle.script_reader.specs.declared.fault.Cause.{Cause}
use Rattle.script_reader.specs.declared.fault.Cause.TheVariants.{NoLive, BadLine, ManySessions, NoOwn}
use Rattle.script_reader.specs.declared.fault.ScriptFault.{ScriptFault}
use Rattle.script_reader.specs.declared.fault.ScriptFault.TheVariants.{At, NoMemory}
use Rattle.script_reader.specs.declared.line.CommandLine.{CommandLine}
use Rattle.script_reader.specs.declared.line.CommandLine.TheVariants as command_lines

-- the line of a command
abbrev pub command_line_in : declared.Command → CommandLine
command_line_in (command.Look name) = command_lines.Look name
command_line_in (command.Put name text) = command_lines.Put name
command_line_in (command.Add place text) = command_lines.Add place
command_line_in (command.Cut name) = command_lines.Cut name
command_line_in (command.LoopAt line) = command_lines.LoopAt line
command_line_in command.Verdict = command_lines.Verdict
command_line_in command.LookHead = command_lines.LookHead
command_line_in (command.PutHead names) = command_lines.PutHead

-- and its text
abbrev pub text_of_command : declared.Command → List (List ℕ)
text_of_command (command.Look name) = []
text_of_command (command.Put name text) = text
text_of_command (command.Add place text) = text
text_of_command (command.Cut name) = []
text_of_command (command.LoopAt line) = []
text_of_command command.Verdict = []
text_of_command command.LookHead = []
text_of_command (command.PutHead names) = []

-- what a command says without its text
abbrev pub command_statement : declared.Command → Statement
command_statement (command.Look name) = Command (command_lines.Look name)
command_statement (command.Put name text) = Command (command_lines.Put name)
command_statement (command.Add place text) = Command (command_lines.Add place)
command_statement (command.Cut name) = Command (command_lines.Cut name)
command_statement (command.LoopAt line) = Command (command_lines.LoopAt line)
command_statement command.Verdict = Command command_lines.Verdict
command_statement command.LookHead = Command command_lines.LookHead
command_statement (command.PutHead names) = Header names

-- a command is that, and the lines of its text
abbrev pub command_statements : declared.Command → List Statement
command_statements command = command_statement command ∷ map Text (text_of_command command)

-- a session is the line `session`, and its commands
abbrev pub session_statements : List declared.Command → List Statement
session_statements commands = Session ∷ flat_map command_statements commands

-- what the lines behind the first one say: the opening text, and the sessions
abbrev pub statements : Script → List Statement
statements script = map Text script.text ++ flat_map session_statements script.sessions

-- the name is an id, or that of an add command among so many
abbrev pub is_known_name : ℕ → BlockName → Bool
is_known_name adds (Id id) = true
is_known_name adds (Own n) = nat_le 1 n && nat_le n adds

abbrev pub is_known_place : ℕ → Place → Bool
is_known_place adds Start = true
is_known_place adds (After name) = is_known_name adds name

-- the command names a block that can have been made, behind so many add commands of its session
abbrev pub names_known : ℕ → CommandLine → Bool
names_known adds (command_lines.Look name) = is_known_name adds name
names_known adds (command_lines.Put name) = is_known_name adds name
names_known adds (command_lines.Add place) = is_known_place adds place
names_known adds (command_lines.Cut name) = is_known_name adds name
names_known adds (command_lines.LoopAt line) = true
names_known adds command_lines.Verdict = true
names_known adds command_lines.LookHead = true
names_known adds command_lines.PutHead = true

-- one for an add command
abbrev pub adds_of : CommandLine → ℕ
adds_of (command_lines.Look name) = 0
adds_of (command_lines.Put name) = 0
adds_of (command_lines.Add place) = 1
adds_of (command_lines.Cut name) = 0
adds_of (command_lines.LoopAt line) = 0
adds_of command_lines.Verdict = 0
adds_of command_lines.LookHead = 0
adds_of command_lines.PutHead = 0

-- how many add commands there are
abbrev pub adds_in : List declared.Command → ℕ
adds_in commands = sum_by (λ command. adds_of (command_line_in command)) commands

-- each command names blocks of add commands before it
abbrev pub all_known : ℕ → List declared.Command → Bool
all_known adds [] = true
all_known adds (command ∷ commands) = names_known adds (command_line_in command) && all_known (adds + adds_of (command_line_in command)) commands

-- the lines spell this script
pub record LinesSpell (first : List ℕ) (lines : List (List ℕ)) (script : Script) : Type 0 where
  pub live : is_live first ≡ true
  pub said : filter says_something (statements_of lines) ≡ statements script
  pub few : length script.sessions ≤ 64
  pub known : list_all (all_known 0) script.sessions ≡ true

-- these are the lines of this script
abbrev pub IsScript : List (List ℕ) → Script → Type 0
IsScript [] script = ⊥
IsScript (first ∷ lines) script = LinesSpell first lines script

-- the line is `put head`, whose text says what it is
abbrev pub is_put_head : CommandLine → Bool
is_put_head (command_lines.Look name) = false
is_put_head (command_lines.Put name) = false
is_put_head (command_lines.Add place) = false
is_put_head (command_lines.Cut name) = false
is_put_head (command_lines.LoopAt line) = false
is_put_head command_lines.Verdict = false
is_put_head command_lines.LookHead = false
is_put_head command_lines.PutHead = true

-- text lines may stand behind the command
abbrev pub takes_text : CommandLine → Bool
takes_text (command_lines.Look name) = false
takes_text (command_lines.Put name) = true
takes_text (command_lines.Add place) = true
takes_text (command_lines.Cut name) = false
takes_text (command_lines.LoopAt line) = false
takes_text command_lines.Verdict = false
takes_text command_lines.LookHead = false
takes_text command_lines.PutHead = false

-- there is a last item, and it is such
abbrev pub last_is : {A : Type 0} → (A → Bool) → List A → Bool
last_is test [] = false
last_is test (x ∷ []) = test x
last_is test (x ∷ y ∷ ys) = last_is test (y ∷ ys)

-- behind the last of the commands
abbrev pub last_takes_text : List declared.Command → Bool
last_takes_text commands = last_is (λ command. takes_text (command_line_in command)) commands

-- the last of the sessions
abbrev pub last_session : {A : Type 0} → List (List A) → List A
last_session [] = []
last_session (session ∷ []) = session
last_session (session ∷ next ∷ sessions) = last_session (next ∷ sessions)

-- why a text can't stand behind the lines of these sessions: the last command takes none
abbrev pub text_cause : List (List declared.Command) → Option Cause
text_cause [] = None
text_cause (session ∷ sessions) = if last_takes_text (last_session (session ∷ sessions)) then None else Some BadLine

-- why a session can't begin there: 64 are there
abbrev pub session_cause : {A : Type 0} → List (List A) → Option Cause
session_cause sessions = if nat_lt (length sessions) 64 then None else Some ManySessions

-- why a command can't stand there: there is no session, or the name is that of an add command to come
abbrev pub command_cause : List (List declared.Command) → CommandLine → Option Cause
command_cause [] command_line = Some BadLine
command_cause (session ∷ sessions) command_line = if names_known (adds_in (last_session (session ∷ sessions))) command_line then None else Some NoOwn

-- why a line that says this can't stand behind the lines of the script
abbrev pub script_statement_cause : Script → Statement → Option Cause
script_statement_cause script Nothing = None
script_statement_cause script (Text text) = text_cause script.sessions
script_statement_cause script Session = session_cause script.sessions
script_statement_cause script (Command command_line) = if is_put_head command_line then Some BadLine else command_cause script.sessions command_line
script_statement_cause script (Header names) = command_cause script.sessions command_lines.PutHead
script_statement_cause script (Mark mark) = Some BadLine
script_statement_cause script Nonsense = Some BadLine

-- at most 64 sessions, whose commands name known blocks
pub record IsLawfulScript (script : Script) : Type 0 where
  pub few : length script.sessions ≤ 64
  pub known : list_all (all_known 0) script.sessions ≡ true

-- a script may end behind each of its lines
abbrev pub live_grammar : Grammar
live_grammar = record { SoFar = Script; says = statements; IsLawful = IsLawfulScript; cause_of = script_statement_cause; end_cause = λ script. None }

-- no script begins with these lines
abbrev pub BeginNoScript : List (List ℕ) → Type 0
BeginNoScript lines = BeginNone IsScript lines

-- the line with this number is the first that can't stand behind those before it
abbrev pub IsFirstOutside : List (List ℕ) → ℕ → Cause → Type 0
IsFirstOutside lines number cause = IsOutside live_grammar IsScript lines number cause

-- the first line isn't that of a script, or there is none
abbrev pub HasNoLive : List (List ℕ) → ℕ → Cause → Type 0
HasNoLive lines number cause = HasOtherForm IsScript NoLive lines number cause

-- the refusal names the first line outside the grammar, and its cause; want of memory says nothing of the lines
abbrev pub IsScriptRefusal : List (List ℕ) → ScriptFault → Type 0
IsScriptRefusal lines (At number cause) = HasNoLive lines number cause ⊎ IsFirstOutside lines number cause
IsScriptRefusal lines NoMemory = Unit {0}
