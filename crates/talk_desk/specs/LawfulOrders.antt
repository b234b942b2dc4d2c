-- Orders that are lawful, and how it stands where lines ask for such alone.
use Rattle.std.specs.Prelude.{◌≡◌, ℕ, ◌<◌, ◌≤◌, true, List, [], ◌∷◌, length, Option, Some, None, IfSome}
use Rattle.std.specs.List.{list_all}
use Rattle.script_reader.specs.Groups.{is_edit, is_lawful_step}
use Rattle.script_reader.specs.Hearing.{Awaiting, Block, Edits, Header, Hearing, Nothing, Order}
use Rattle.script_reader.specs.Hearing.{Passing, Text, Refuse, Ask, Tell, command_with}
use Rattle.script_reader.specs.declared.command.Command.{Command}

-- a step is lawful, and of a session below 64; a question is one of such a session
abbrev pub is_lawful_order : Order → Type 0
is_lawful_order (Refuse line cause) = Unit {0}
is_lawful_order (Ask session s) = (session < 64) × (is_lawful_step s ≡ true)
is_lawful_order (Tell session q) = session < 64

abbrev pub AllOrders : List Order → Type 0
AllOrders [] = Unit {0}
AllOrders (order ∷ orders) = is_lawful_order order × AllOrders orders

-- an open group has at most 64 commands, each an edit of a block
abbrev pub IsFairGroup : Option (List Command) → Type 0
IsFairGroup None = Unit {0}
IsFairGroup (Some commands) = (length commands ≤ 64) × (list_all is_edit commands ≡ true)

-- where a group is open, the command is an edit of a block, and none beyond the 64th
abbrev pub HasEditRoom : Option (List Command) → Command → Type 0
HasEditRoom None command = Unit {0}
HasEditRoom (Some commands) command = (is_edit command ≡ true) × (length commands < 64)

-- an edit whose text is awaited has room, whatever the text; new names of the header are awaited only where no group is open
abbrev pub MayAwaitText : Option (List Command) → Edits → Type 0
MayAwaitText group (Block c) = (text : List (List ℕ)) → IfSome (command_with c text) (HasEditRoom group)
MayAwaitText group Header = group ≡ None

abbrev pub MayAwait : Option (List Command) → Awaiting → Type 0
MayAwait group Nothing = Unit {0}
MayAwait group Passing = Unit {0}
MayAwait group (Text edits missing before) = MayAwaitText group edits

-- so it stands behind any lines
pub record IsSoundHearing (h : Hearing) : Type 0 where
  pub low : h.session < 64
  pub fair : IsFairGroup h.group
  pub may : MayAwait h.group h.awaiting
