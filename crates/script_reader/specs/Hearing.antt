-- What the lines of a conversation ask for, one after the other. It is known from the lines alone.
use Rattle.std.specs.Prelude.{ℕ, zero, suc, ◌+◌, ◌==◌, ◌&&◌, Bool, true, nat_le, nat_lt, List, [], ◌∷◌, ◌++◌, length, drop, Option, Some, None, if◌then◌else◌}
use Rattle.std.specs.Option.{option_map_or}
use Rattle.std.specs.Str.{is_utf8}
use Rattle.knitout_reader.specs.Head.{names_in_line}
use Rattle.script_reader.specs.Groups.{commands_of_step, is_edit_line}
use Rattle.script_reader.specs.Script.{adds_in, is_known_name, names_known}
use Rattle.script_reader.specs.Statements.{is_text_line}
use Rattle.script_reader.specs.TalkLines.{talk_line_of}
use Rattle.script_reader.specs.declared.command.Command as declared
use Rattle.script_reader.specs.declared.command.Command.TheVariants as command
use Rattle.script_reader.specs.declared.fault.Cause.{Cause}
use Rattle.script_reader.specs.declared.fault.Cause.TheVariants.{BadLine, LineLong, NoOwn, NotUtf8}
use Rattle.script_reader.specs.declared.line.CommandLine.{CommandLine}
use Rattle.script_reader.specs.declared.line.CommandLine.TheVariants as command_lines
use Rattle.script_reader.specs.declared.line.Mark as marks
use Rattle.script_reader.specs.declared.line.Mark.TheVariants as mark
use Rattle.script_reader.specs.declared.step.Step.{Step}
use Rattle.script_reader.specs.declared.step.Step.TheVariants as step
use Rattle.script_reader.specs.declared.talk_line.Asked.{Asked}
use Rattle.script_reader.specs.declared.talk_line.Asked.TheVariants as asked
use Rattle.script_reader.specs.declared.talk_line.Question.{Question}
use Rattle.script_reader.specs.declared.talk_line.Question.TheVariants as question
use Rattle.script_reader.specs.declared.talk_line.TalkLine.{TalkLine}
use Rattle.script_reader.specs.declared.talk_line.TalkLine.TheVariants as talk

-- A line is refused, with its number; or a session takes a step; or it asks what changes nothing, neither the journal nor what it remembers.
pub data Order : Type 0 where
  Refuse : (line : ℕ) → Cause → Order
  Ask : (session : ℕ) → Step → Order
  Tell : (session : ℕ) → Question → Order

-- an edit whose text is heard: a put or an add, or new names of the header
pub data Edits : Type 0 where
  Block : CommandLine → Edits
  Header : Edits

-- What becomes of a text line: it is refused; it belongs to a line that was refused, and is passed over; or it is one of the missing lines of an edit's text.
pub data Awaiting : Type 0 where
  Nothing : Awaiting
  Passing : Awaiting
  Text : Edits → (missing : ℕ) → (before : List (List ℕ)) → Awaiting

-- Which session the text or the group that isn't whole belongs to, how many adds of each session are in whole steps, the edits of a group that isn't closed, and what is awaited.
pub record Hearing : Type 0 where
  pub session : ℕ
  pub adds : ℕ → ℕ
  pub group : Option (List declared.Command)
  pub awaiting : Awaiting

abbrev pub first_hearing : Hearing
first_hearing = record { session = 0; adds = λ n. 0; group = None; awaiting = Nothing }

-- why a line can't be read: it has over 4,096 bytes, or else isn't UTF-8
abbrev pub fault_of : List ℕ → Option Cause
fault_of line = if nat_le (length line) 4096 then (if is_utf8 line then None else Some NotUtf8) else Some LineLong

-- this is asked for, and so it goes on
abbrev pub OrdersAndHearing : Type 0
OrdersAndHearing = List Order × Hearing

-- nothing is awaited, no group is open
abbrev pub at_rest : Hearing → Awaiting → Hearing
at_rest h awaiting = record { session = h.session; adds = h.adds; group = None; awaiting = awaiting }

-- what a text that is broken off at this line asks for
abbrev pub broken_off : ℕ → Awaiting → List Order
broken_off line Nothing = []
broken_off line Passing = []
broken_off line (Text edits missing before) = Refuse line BadLine ∷ []

-- The line is refused: a text that is awaited is broken off, a group that is open ends without an edit, and text lines behind it are passed over.
abbrev pub refused_line : Hearing → ℕ → Cause → OrdersAndHearing
refused_line h line cause = (broken_off line h.awaiting ++ Refuse line cause ∷ [], at_rest h Passing)

abbrev pub with_adds : ℕ → ℕ → (ℕ → ℕ) → ℕ → ℕ
with_adds session count adds n = if n == session then adds n + count else adds n

-- a step of a session is whole
abbrev pub step_heard : Hearing → ℕ → Step → OrdersAndHearing
step_heard h session s =
    (Ask session s ∷ [], record { session = session; adds = with_adds session (adds_in (commands_of_step s)) h.adds; group = None; awaiting = Nothing })

-- a command is whole: it stands alone, or in the open group
abbrev pub command_heard : Hearing → ℕ → declared.Command → OrdersAndHearing
command_heard h session c =
    option_map_or (λ commands. ([], record { session = session; adds = h.adds; group = Some (commands ++ c ∷ []); awaiting = Nothing })) h.group (step_heard h session (step.One c))

-- the command of a command line, with the text of a put or an add
abbrev pub command_with : CommandLine → List (List ℕ) → Option declared.Command
command_with (command_lines.Look name) text = Some (command.Look name)
command_with (command_lines.Put name) text = Some (command.Put name text)
command_with (command_lines.Add place) text = Some (command.Add place text)
command_with (command_lines.Cut name) text = Some (command.Cut name)
command_with (command_lines.LoopAt line) text = Some (command.LoopAt line)
command_with command_lines.Verdict text = Some command.Verdict
command_with command_lines.LookHead text = Some command.LookHead
command_with command_lines.PutHead text = None

abbrev pub whole : Hearing → ℕ → Option declared.Command → OrdersAndHearing
whole h session None = ([], h)
whole h session (Some c) = command_heard h session c

-- the edit waits for so many lines behind these, or is whole
abbrev pub edit_awaited : Hearing → ℕ → CommandLine → ℕ → List (List ℕ) → OrdersAndHearing
edit_awaited h session c zero text = whole h session (command_with c text)
edit_awaited h session c (suc missing) text = ([], record { session = session; adds = h.adds; group = h.group; awaiting = Text (Block c) (suc missing) text })

-- the names that a text line gives to the header; where it gives none, the line is refused
abbrev pub header_heard : Hearing → ℕ → Option (List (List ℕ)) → OrdersAndHearing
header_heard h line None = (Refuse line BadLine ∷ [], at_rest h Passing)
header_heard h line (Some names) = command_heard h h.session (command.PutHead names)

-- one more line of the text of an edit
abbrev pub text_added : Hearing → ℕ → Edits → ℕ → List (List ℕ) → List ℕ → OrdersAndHearing
text_added h line Header missing before text = header_heard h line (names_in_line text)
text_added h line (Block c) zero before text = ([], h)
text_added h line (Block c) (suc missing) before text = edit_awaited h h.session c missing (before ++ text ∷ [])

-- a text line, which is good or can't be read
abbrev pub text_heard : Hearing → Awaiting → ℕ → Option Cause → List ℕ → OrdersAndHearing
text_heard h Nothing line None text = refused_line h line BadLine
text_heard h Nothing line (Some cause) text = refused_line h line cause
text_heard h Passing line fault text = ([], h)
text_heard h (Text edits missing before) line (Some cause) text = (Refuse line cause ∷ [], at_rest h Passing)
text_heard h (Text edits missing before) line None text = text_added h line edits missing before text

-- names of blocks are those of adds that were heard
abbrev pub question_known : ℕ → Question → Bool
question_known adds (question.TextAt name stamp) = is_known_name adds name
question_known adds q = true

-- a mark where no group is open
abbrev pub mark_heard : Hearing → ℕ → ℕ → marks.Mark → OrdersAndHearing
mark_heard h line session mark.Group = ([], record { session = session; adds = h.adds; group = Some []; awaiting = Nothing })
mark_heard h line session mark.End = refused_line h line BadLine
mark_heard h line session mark.Undo = step_heard h session step.Undo

-- what a session asks where no group is open
abbrev pub asked_alone : Hearing → ℕ → ℕ → Asked → OrdersAndHearing
asked_alone h line session (asked.Plain c) = if names_known (h.adds session) c then whole h session (command_with c []) else refused_line h line NoOwn
asked_alone h line session (asked.Edit c count) = if names_known (h.adds session) c then edit_awaited h session c count [] else refused_line h line NoOwn
asked_alone h line session asked.Header = ([], record { session = session; adds = h.adds; group = None; awaiting = Text Header 1 [] })
asked_alone h line session (asked.Tell q) = if question_known (h.adds session) q then (Tell session q ∷ [], h) else refused_line h line NoOwn
asked_alone h line session (asked.Mark m) = mark_heard h line session m

-- an edit may stand behind these of an open group: it edits a block, its text isn't too long, and it is none beyond the 64th
abbrev pub has_place : List declared.Command → CommandLine → ℕ → Bool
has_place commands c count = is_edit_line c && nat_le count 4096 && nat_lt (length commands) 64

abbrev pub edit_grouped : Hearing → ℕ → ℕ → List declared.Command → CommandLine → ℕ → OrdersAndHearing
edit_grouped h line session commands c count =
    if has_place commands c count then (if names_known (h.adds session + adds_in commands) c then edit_awaited h session c count [] else refused_line h line NoOwn)
    else refused_line h line BadLine

-- the end of a group, which has an edit
abbrev pub group_closed : Hearing → ℕ → ℕ → List declared.Command → OrdersAndHearing
group_closed h line session [] = refused_line h line BadLine
group_closed h line session (c ∷ cs) = step_heard h session (step.Group (c ∷ cs))

-- what the session of an open group asks: an edit of a block, or its end; all else is refused
abbrev pub asked_in_group : Hearing → ℕ → ℕ → List declared.Command → Asked → OrdersAndHearing
asked_in_group h line session commands (asked.Plain c) = edit_grouped h line session commands c 0
asked_in_group h line session commands (asked.Edit c count) = edit_grouped h line session commands c count
asked_in_group h line session commands asked.Header = refused_line h line BadLine
asked_in_group h line session commands (asked.Tell q) = refused_line h line BadLine
asked_in_group h line session commands (asked.Mark mark.Group) = refused_line h line BadLine
asked_in_group h line session commands (asked.Mark mark.End) = group_closed h line session commands
asked_in_group h line session commands (asked.Mark mark.Undo) = refused_line h line BadLine

abbrev pub in_group : Hearing → ℕ → ℕ → List declared.Command → Asked → OrdersAndHearing
in_group h line session commands a = if session == h.session then asked_in_group h line session commands a else refused_line h line BadLine

-- what a session asks where no text is awaited
abbrev pub asks : Hearing → ℕ → ℕ → Asked → OrdersAndHearing
asks h line session a = option_map_or (λ commands. in_group h line session commands a) h.group (asked_alone h line session a)

-- a text that is awaited is broken off by a command line: a group that is open ends with it, and then the line is heard for itself
abbrev pub hearing_settled : Hearing → Awaiting → Hearing
hearing_settled h Nothing = h
hearing_settled h Passing = at_rest h Nothing
hearing_settled h (Text edits missing before) = at_rest h Nothing

abbrev pub heard_behind_orders : List Order → OrdersAndHearing → OrdersAndHearing
heard_behind_orders before heard = (before ++ heard.0, heard.1)

abbrev pub line_heard : Hearing → ℕ → TalkLine → OrdersAndHearing
line_heard h line talk.Skipped = ([], h)
line_heard h line talk.Text = ([], h)
line_heard h line (talk.Bad cause) = refused_line h line cause
line_heard h line (talk.Command session a) = heard_behind_orders (broken_off line h.awaiting) (asks (hearing_settled h h.awaiting) line session a)

abbrev pub other_heard : Hearing → ℕ → Option Cause → List ℕ → OrdersAndHearing
other_heard h line (Some cause) text = refused_line h line cause
other_heard h line None text = line_heard h line (talk_line_of text)

-- one more line, which has this number
abbrev pub heard : Hearing → ℕ → List ℕ → OrdersAndHearing
heard h number line = if is_text_line line then text_heard h h.awaiting number (fault_of line) (drop 1 line) else other_heard h number (fault_of line) line

-- what these lines ask for, of which the first has this number
abbrev pub orders_from : Hearing → ℕ → List (List ℕ) → List Order
orders_from h number [] = []
orders_from h number (line ∷ lines) = (heard h number line).0 ++ orders_from (heard h number line).1 (number + 1) lines

-- and how it then goes on
abbrev pub hearing_behind : Hearing → ℕ → List (List ℕ) → Hearing
hearing_behind h number [] = h
hearing_behind h number (line ∷ lines) = hearing_behind (heard h number line).1 (number + 1) lines

-- an open group is broken off
abbrev pub left_open : ℕ → Option (List declared.Command) → List Order
left_open line None = []
left_open line (Some commands) = Refuse line BadLine ∷ []

-- the input ends where this is awaited: an edit without its whole text, or a group without its end, is refused
abbrev pub at_end : ℕ → Awaiting → Option (List declared.Command) → List Order
at_end line Nothing group = left_open line group
at_end line Passing group = left_open line group
at_end line (Text edits missing before) group = Refuse line BadLine ∷ []

-- what the end of the input asks for, where the line behind the last one would have this number
abbrev pub orders_at_end : Hearing → ℕ → List Order
orders_at_end h number = at_end number h.awaiting h.group
