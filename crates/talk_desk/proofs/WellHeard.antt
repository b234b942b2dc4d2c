-- What becomes of one line asks for lawful steps alone, and leaves it as it may stand.
use Rattle.std.proofs.Common.{◌≡◌, ℕ, zero, suc, ◌+◌, ◌<◌, Bool, true, false, nat_le, nat_lt, List, [], ◌∷◌, ◌++◌, length}
use Rattle.std.proofs.Common.{Option, Some, None, IfSome, if◌then◌else◌, sym, refl, subst, arith, length-append}
use Rattle.std.specs.List.{list_all}
use Rattle.std.specs.Option.{option_map_or}
use Rattle.script_reader.specs.Groups.{is_edit, is_edit_line, is_lawful_step}
use Rattle.script_reader.specs.Hearing.{Awaiting, Block, Edits, Header, OrdersAndHearing, Hearing, Nothing, Order, Passing, Text, Refuse, Tell}
use Rattle.script_reader.specs.Hearing.{at_rest, edit_awaited, broken_off, group_closed, command_with, command_heard, header_heard}
use Rattle.script_reader.specs.Hearing.{question_known, refused_line, step_heard, text_added, text_heard, whole}
use Rattle.script_reader.specs.declared.command.Command.{Command}
use Rattle.script_reader.specs.declared.command.Command.TheVariants as command
use Rattle.script_reader.specs.declared.fault.Cause.{Cause}
use Rattle.script_reader.specs.declared.fault.Cause.TheVariants.{BadLine, NoOwn}
use Rattle.script_reader.specs.declared.step.Step.{Step}
use Rattle.script_reader.specs.declared.step.Step.TheVariants as step
use Rattle.script_reader.specs.declared.talk_line.Question.{Question}
use Rattle.script_reader.proofs.Bools.{all_snoc, both_true}
use Rattle.talk_desk.specs.LawfulOrders.{AllOrders, HasEditRoom, IsFairGroup, IsSoundHearing, MayAwait, MayAwaitText}

-- what is asked for is lawful, and so it stands behind it
pub record IsWell (told : OrdersAndHearing) : Type 0 where
  pub sound : IsSoundHearing told.1
  pub lawful : AllOrders told.0

-- more orders
pub all_more : (orders more : List Order) → AllOrders orders → AllOrders more → AllOrders (orders ++ more)
all_more [] more all rest = rest
all_more (order ∷ orders) more all rest = (all.0, all_more orders more all.1 rest)

pub broken_lawful : (line : ℕ) (a : Awaiting) → AllOrders (broken_off line a)
broken_lawful line Nothing = tt
broken_lawful line Passing = tt
broken_lawful line (Text edits missing before) = (tt, tt)

-- where no group is open, nothing more is asked
pub hearing_at_rest_asks_nothing : (h : Hearing) (a : Awaiting) → MayAwait None a → IsSoundHearing h → IsSoundHearing (at_rest h a)
hearing_at_rest_asks_nothing h a may sound = record { low = sound.low; fair = tt; may = may }

pub refused_well : (h : Hearing) (line : ℕ) (cause : Cause) → IsSoundHearing h → IsWell (refused_line h line cause)
refused_well h line cause sound = record {
  sound = hearing_at_rest_asks_nothing h Passing tt sound;
  lawful = all_more (broken_off line h.awaiting) (Refuse line cause ∷ []) (broken_lawful line h.awaiting) (tt, tt);
}

pub stepped_well : (h : Hearing) (session : ℕ) (s : Step) → session < 64 → is_lawful_step s ≡ true → IsWell (step_heard h session s)
stepped_well h session s low lawful = record { sound = record { low = low; fair = tt; may = tt }; lawful = ((low, lawful), tt) }

-- a whole command, alone or in the open group
module _ (h : Hearing) (session : ℕ) (c : Command) (low : session < 64) where
  abbrev joined : List Command → OrdersAndHearing
  joined commands = ([], record { session = session; adds = h.adds; group = Some (commands ++ c ∷ []); awaiting = Nothing })

  group_or_alone : (group : Option (List Command)) → IsFairGroup group → HasEditRoom group c
      → IsWell (option_map_or joined group (step_heard h session (step.One c)))
  group_or_alone None fair room = stepped_well h session (step.One c) low refl
  group_or_alone (Some commands) fair room =
      let count : length (commands ++ c ∷ []) ≡ length commands + 1 = length-append commands (c ∷ []) in
      let few = room.1 in
      let edits = all_snoc is_edit commands c fair.1 room.0 in
      record { sound = record { low = low; fair = (omega (arith, count, few), edits); may = tt }; lawful = tt }

  pub commanded_well : IsFairGroup h.group → HasEditRoom h.group c → IsWell (command_heard h session c)
  commanded_well = group_or_alone h.group

  -- where no group is open, each has room
  pub alone_well : IsSoundHearing h → h.group ≡ None → IsWell (command_heard h session c)
  alone_well sound none = commanded_well sound.fair (subst (λ (g : Option (List Command)). HasEditRoom g c) (sym none) tt)

pub whole_well : (h : Hearing) (session : ℕ) (o : Option Command) → IsSoundHearing h → session < 64 → IfSome o (HasEditRoom h.group)
    → IsWell (whole h session o)
whole_well h session None sound low room = record { sound = sound; lawful = tt }
whole_well h session (Some c) sound low room = commanded_well h session c low sound.fair room

-- the type of a command line, which has no name here
abbrev taken_by : {A : Type 0} → (A → Bool) → Type 0
taken_by {A} f = A

abbrev pub CommandLine : Type 0
CommandLine = taken_by is_edit_line

pub awaited_well : (h : Hearing) (session : ℕ) (c : CommandLine) (missing : ℕ) (text : List (List ℕ)) → IsSoundHearing h → session < 64
    → MayAwaitText h.group (Block c) → IsWell (edit_awaited h session c missing text)
awaited_well h session c zero text sound low room = whole_well h session (command_with c text) sound low (room text)
awaited_well h session c (suc missing) text sound low room =
    record { sound = record { low = low; fair = sound.fair; may = room }; lawful = tt }

-- a text line
names_well : (h : Hearing) (line : ℕ) (names : Option (List (List ℕ))) → IsSoundHearing h → h.group ≡ None → IsWell (header_heard h line names)
names_well h line None sound none = record { sound = hearing_at_rest_asks_nothing h Passing tt sound; lawful = (tt, tt) }
names_well h line (Some names) sound none = alone_well h h.session (command.PutHead names) sound.low sound none

added_well : (h : Hearing) (line : ℕ) (edits : Edits) (missing : ℕ) (before : List (List ℕ)) (text : List ℕ) → IsSoundHearing h
    → MayAwaitText h.group edits → IsWell (text_added h line edits missing before text)
added_well h line Header missing before text sound none = names_well h line _ sound none
added_well h line (Block c) zero before text sound room = record { sound = sound; lawful = tt }
added_well h line (Block c) (suc missing) before text sound room =
    awaited_well h h.session c missing (before ++ text ∷ []) sound sound.low room

pub text_well : (h : Hearing) (a : Awaiting) (line : ℕ) (fault : Option Cause) (text : List ℕ) → IsSoundHearing h → MayAwait h.group a
    → IsWell (text_heard h a line fault text)
text_well h Nothing line None text sound may = refused_well h line BadLine sound
text_well h Nothing line (Some cause) text sound may = refused_well h line cause sound
text_well h Passing line fault text sound may = record { sound = sound; lawful = tt }
text_well h (Text edits missing before) line (Some cause) text sound may =
    record { sound = hearing_at_rest_asks_nothing h Passing tt sound; lawful = (tt, tt) }
text_well h (Text edits missing before) line None text sound may = added_well h line edits missing before text sound may

-- a question
pub test_well : (h : Hearing) (line : ℕ) (cause : Cause) (b : Bool) (goes : OrdersAndHearing) → IsSoundHearing h → (b ≡ true → IsWell goes)
    → IsWell (if b then goes else refused_line h line cause)
test_well h line cause true goes sound well = well refl
test_well h line cause false goes sound well = refused_well h line cause sound

pub question_well : (q : Question) (h : Hearing) (line session : ℕ) → IsSoundHearing h → session < 64 → h.group ≡ None
    → IsWell (if question_known (h.adds session) q then (Tell session q ∷ [], h) else refused_line h line NoOwn)
question_well q h line session sound low none =
    test_well h line NoOwn (question_known (h.adds session) q) (Tell session q ∷ [], h) sound
    (λ known. record { sound = sound; lawful = (low, tt) })

-- the end of a group
pub closed_well : (h : Hearing) (line session : ℕ) (commands : List Command) → IsSoundHearing h → session < 64 → IsFairGroup (Some commands)
    → IsWell (group_closed h line session commands)
closed_well h line session [] sound low fair = refused_well h line BadLine sound
closed_well h line session (c ∷ cs) sound low fair =
    let few = fair.0 in
    let some : nat_lt 0 (length (c ∷ cs)) ≡ true = grind arith in
    let fits : nat_le (length (c ∷ cs)) 64 ≡ true = grind arith in
    stepped_well h session (step.Group (c ∷ cs)) low (both_true _ (list_all is_edit (c ∷ cs)) (both_true _ _ some fits) fair.1)
