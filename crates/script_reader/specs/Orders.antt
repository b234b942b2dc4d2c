-- The orders that a listener gives, and what they stand for.
use Rattle.std.specs.Prelude.{◌≡◌, ◌<◌, ℕ, Bool, true, false, List, [], ◌∷◌, length, Option, Some, None}
use Rattle.script_reader.specs.Groups.{commands_of_step}
use Rattle.script_reader.specs.Hearing.{Order, Refuse, Ask, Tell}
use Rattle.script_reader.specs.Script.{adds_in}
use Rattle.script_reader.specs.declared.command.Command as commands
use Rattle.script_reader.specs.declared.command.Command.TheVariants as command
use Rattle.script_reader.specs.declared.fault.Cause.TheVariants.{BadLine}
use Rattle.script_reader.specs.declared.order.Heard as given
use Rattle.script_reader.specs.declared.order.Order as declared
use Rattle.script_reader.specs.declared.order.Order.TheVariants as order
use Rattle.script_reader.specs.declared.order.TextEdit.{TextEdit}
use Rattle.script_reader.specs.declared.order.TextEdit.TheVariants as edit
use Rattle.script_reader.specs.declared.step.Step.{Step}
use Rattle.script_reader.specs.declared.step.Step.TheVariants as step

-- the edit with this text
abbrev pub edit_with : TextEdit → List (List ℕ) → commands.Command
edit_with (edit.Put name) text = command.Put name text
edit_with (edit.Add place) text = command.Add place text

-- an edit that stands alone, with a text of so many lines, which are over 4,096
pub record IsTooLong (session : ℕ) (e : TextEdit) (lines : ℕ) (asked : Order) : Type 0 where
  pub text : List (List ℕ)
  pub is : asked ≡ Ask session (step.One (edit_with e text))
  pub counted : lines ≡ length text
  pub long : 4096 < lines

-- some step of the session, with so many adds
pub record IsLost (session adds : ℕ) (asked : Order) : Type 0 where
  pub lost : Step
  pub is : asked ≡ Ask session lost
  pub counted : adds ≡ adds_in (commands_of_step lost)

-- the order that is given stands for this one
abbrev pub OrderStandsFor : declared.Order → Order → Type 0
OrderStandsFor (order.Refuse line cause) asked = asked ≡ Refuse line cause
OrderStandsFor (order.Ask session s) asked = asked ≡ Ask session s
OrderStandsFor (order.TooLong session e lines) asked = IsTooLong session e lines asked
OrderStandsFor (order.Lost session adds) asked = IsLost session adds asked
OrderStandsFor (order.Tell session question) asked = asked ≡ Tell session question

-- an order is given for the only one, or none where there is none
abbrev pub IsOnlyOrder : Option declared.Order → List Order → Type 0
IsOnlyOrder None [] = Unit {0}
IsOnlyOrder None (asked ∷ more) = ⊥
IsOnlyOrder (Some given) [] = ⊥
IsOnlyOrder (Some given) (asked ∷ []) = OrderStandsFor given asked
IsOnlyOrder (Some given) (asked ∷ next ∷ more) = ⊥

-- the refusal of a text that the line with this number broke off, if it did
abbrev pub breaking : ℕ → Bool → List Order
breaking number false = []
breaking number true = Refuse number BadLine ∷ []

-- what is given for the orders of a line: that it broke a text off, and an order
abbrev pub AreOrdersOfLine : ℕ → Bool → Option declared.Order → List Order → Type 0
AreOrdersOfLine number false given asked = IsOnlyOrder given asked
AreOrdersOfLine number true given [] = ⊥
AreOrdersOfLine number true given (asked ∷ more) = (asked ≡ Refuse number BadLine) × IsOnlyOrder given more

-- what a listener answers to the line with this number stands for these orders
abbrev pub AreOrders : ℕ → given.Heard → List Order → Type 0
AreOrders number heard asked = AreOrdersOfLine number heard.broken_off heard.order asked
