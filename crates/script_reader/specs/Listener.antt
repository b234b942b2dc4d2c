-- What a listener keeps of the lines of a conversation that it has heard.
use Rattle.std.specs.Prelude.{◌≡◌, ◌<◌, ◌≤◌, ◌+◌, ℕ, Bool, List, [], length, get_or, min, Option, Some, None, IfSome}
use Rattle.script_reader.specs.Groups.{commands_of_step}
use Rattle.script_reader.specs.Hearing.{Awaiting, Block, Header, Hearing, Nothing, Order, Passing, Text, with_adds}
use Rattle.script_reader.specs.Orders.{AreOrdersOfLine}
use Rattle.script_reader.specs.Script.{adds_in, adds_of}
use Rattle.script_reader.specs.declared.command.Command as commands
use Rattle.script_reader.specs.declared.line.CommandLine.{CommandLine}
use Rattle.script_reader.specs.declared.line.CommandLine.TheVariants as command_lines
use Rattle.script_reader.specs.declared.listener.Listener as listeners
use Rattle.script_reader.specs.declared.listener.state.LongText.{LongText}
use Rattle.script_reader.specs.declared.listener.state.ListenerMove.{ListenerMove}
use Rattle.script_reader.specs.declared.listener.state.OpenGroup.{OpenGroup}
use Rattle.script_reader.specs.declared.listener.state.PartText.{PartText}
use Rattle.script_reader.specs.declared.listener.state.SettledGroup.{SettledGroup}
use Rattle.script_reader.specs.declared.listener.state.State.{State}
use Rattle.script_reader.specs.declared.listener.state.State.TheVariants as states
use Rattle.script_reader.specs.declared.order.Order as declared
use Rattle.script_reader.specs.declared.order.Order.TheVariants as order
use Rattle.script_reader.specs.declared.order.TextEdit.{TextEdit}
use Rattle.script_reader.specs.declared.order.TextEdit.TheVariants as edit

-- a count of adds stops at its last value
abbrev pub capped_adds : ℕ → ℕ
capped_adds adds = min adds 18446744073709551615

-- these are the counts of the sessions
abbrev pub AreCounts : List ℕ → (ℕ → ℕ) → Type 0
AreCounts counts adds = (session : ℕ) → session < 64 → get_or counts session 0 ≡ capped_adds (adds session)

-- the items are kept, or memory ran out for them
abbrev pub KeepsItems : {A : Type 0} → Option (List A) → List A → Type 0
KeepsItems kept items = IfSome kept (λ held. held ≡ items)

-- the line of an edit
abbrev pub line_of_edit : TextEdit → CommandLine
line_of_edit (edit.Put name) = command_lines.Put name
line_of_edit (edit.Add place) = command_lines.Add place

-- a text of which these lines were heard
pub record IsPartText (part : PartText) (awaiting : Awaiting) : Type 0 where
  pub before : List (List ℕ)
  pub is : awaiting ≡ Text (Block (line_of_edit part.edit)) part.missing before
  pub some : 0 < part.missing
  pub kept : KeepsItems part.lines before

-- so many lines are counted, which are over 4,096, with those that are missing
pub record IsTextTooLong (counted : LongText) (before : List (List ℕ)) : Type 0 where
  pub some : 0 < counted.missing
  pub all : length before + counted.missing ≡ counted.lines
  pub long : 4096 < counted.lines

pub record IsLongText (long : LongText) (awaiting : Awaiting) : Type 0 where
  pub before : List (List ℕ)
  pub is : awaiting ≡ Text (Block (line_of_edit long.edit)) long.missing before
  pub counts : IsTextTooLong long before

-- a group with these edits
pub record HoldsGroup (group : OpenGroup) (asked : List commands.Command) : Type 0 where
  pub edits : group.edits ≡ length asked
  pub few : length asked ≤ 64
  pub adds : group.adds ≡ adds_in asked
  pub adds_few : group.adds ≤ group.edits
  pub kept : KeepsItems group.commands asked

pub record IsOpenGroup (group : OpenGroup) (h : Hearing) : Type 0 where
  pub edits : List commands.Command
  pub session : h.session ≡ group.session
  pub is : h.group ≡ Some edits
  pub holds : HoldsGroup group edits

-- a group is open, or none
abbrev pub IsGroupOpen : Option OpenGroup → Hearing → Type 0
IsGroupOpen None h = h.group ≡ None
IsGroupOpen (Some group) h = IsOpenGroup group h

-- the state is that of this hearing
abbrev pub IsState : State → Hearing → Type 0
IsState states.Rest h = (h.group ≡ None) × (h.awaiting ≡ Nothing)
IsState states.Passing h = (h.group ≡ None) × (h.awaiting ≡ Passing)
IsState (states.Header session) h = (h.session ≡ session) × (h.group ≡ None) × (h.awaiting ≡ Text Header 1 [])
IsState (states.Long long) h = (h.session ≡ long.session) × (h.group ≡ None) × IsLongText long h.awaiting
IsState (states.Text part) h = (h.session ≡ part.session) × (h.group ≡ None) × IsPartText part h.awaiting
IsState (states.Group group) h = IsOpenGroup group h × (h.awaiting ≡ Nothing)
IsState (states.GroupText group part) h = IsOpenGroup group h × (group.edits < 64) × IsPartText part h.awaiting

-- what the listener keeps is so much of this hearing as is needed: a text that is too long, or for which memory ran out, is only counted
pub record Hears (listener : listeners.Listener) (h : Hearing) : Type 0 where
  pub counts : AreCounts listener.adds h.adds
  pub state : IsState listener.state h

-- the adds of each session behind an order
abbrev pub adds_behind : Option declared.Order → (ℕ → ℕ) → ℕ → ℕ
adds_behind None adds = adds
adds_behind (Some (order.Refuse line cause)) adds = adds
adds_behind (Some (order.Ask session step)) adds = with_adds session (adds_in (commands_of_step step)) adds
adds_behind (Some (order.TooLong session e lines)) adds = with_adds session (adds_of (line_of_edit e)) adds
adds_behind (Some (order.Lost session lost)) adds = with_adds session lost adds
adds_behind (Some (order.Tell session question)) adds = adds

abbrev pub listener_moved : Bool → State → Option declared.Order → ListenerMove
listener_moved broken_off state given = record { broken_off = broken_off; state = state; order = given }

-- the line with this number leaves this state and asks for this, where so many adds of each session were heard before it
pub record IsListenerMoved (m : ListenerMove) (adds : ℕ → ℕ) (number : ℕ) (told : List Order × Hearing) : Type 0 where
  pub state : IsState m.state told.1
  pub counts : told.1.adds ≡ adds_behind m.order adds
  pub orders : AreOrdersOfLine number m.broken_off m.order told.0

-- no text is awaited, and this group is open, if one is
pub record IsListenerSettled (settled : SettledGroup) (h : Hearing) : Type 0 where
  pub group : IsGroupOpen settled.group h
  pub awaiting : h.awaiting ≡ Nothing
