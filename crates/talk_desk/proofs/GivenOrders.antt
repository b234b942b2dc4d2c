-- What is known of the order that a given one stands for.
use Rattle.std.proofs.Common.{◌≡◌, ℕ, ◌<◌, true, List, length, subst, sym}
use Rattle.script_reader.specs.Groups.{commands_of_step, is_lawful_step}
use Rattle.script_reader.specs.Hearing.{Ask, Order, Refuse, Tell}
use Rattle.script_reader.specs.Orders.{OrderStandsFor, edit_with}
use Rattle.script_reader.specs.Script.{adds_in}
use Rattle.script_reader.specs.declared.fault.Cause.{Cause}
use Rattle.script_reader.specs.declared.order.Order as declared
use Rattle.script_reader.specs.declared.order.Order.TheVariants as order
use Rattle.script_reader.specs.declared.order.TextEdit.{TextEdit}
use Rattle.script_reader.specs.declared.step.Step.{Step}
use Rattle.script_reader.specs.declared.step.Step.TheVariants as step
use Rattle.script_reader.specs.declared.talk_line.Question.{Question}
use Rattle.edit_book.specs.Memory.{text_limit}
use Rattle.talk_desk.specs.LawfulOrders.{is_lawful_order}

module _ (given : declared.Order) (asked : Order) (stands : OrderStandsFor given asked) where
  here : (o : declared.Order) → given ≡ o → OrderStandsFor o asked
  here o is = subst (λ (x : declared.Order). OrderStandsFor x asked) is stands

  -- it is lawful
  module _ (lawful : is_lawful_order asked) where
    pub ask-lawful : (session : ℕ) (st : Step) → given ≡ order.Ask session st → (session < 64) × (is_lawful_step st ≡ true)
    ask-lawful session st is = subst is_lawful_order (here (order.Ask session st) is) lawful

    pub long-lawful : (session : ℕ) (e : TextEdit) (lines : ℕ) → given ≡ order.TooLong session e lines → (session < 64) × (text_limit < lines)
    long-lawful session e lines is = let h = here (order.TooLong session e lines) is in ((subst is_lawful_order h.is lawful).0, h.long)

    pub lost-lawful : (session adds : ℕ) → given ≡ order.Lost session adds → session < 64
    lost-lawful session adds is = let h = here (order.Lost session adds) is in (subst is_lawful_order h.is lawful).0

    pub tell-lawful : (session : ℕ) (q : Question) → given ≡ order.Tell session q → session < 64
    tell-lawful session q is = subst is_lawful_order (here (order.Tell session q) is) lawful

  -- what holds of each order that it may stand for holds of this one
  module _ (P : Order → Type 0) where
    pub as-refuse : (line : ℕ) (why : Cause) → given ≡ order.Refuse line why → P (Refuse line why) → P asked
    as-refuse line why is p = subst P (sym (here (order.Refuse line why) is)) p

    pub as-ask : (session : ℕ) (st : Step) → given ≡ order.Ask session st → P (Ask session st) → P asked
    as-ask session st is p = subst P (sym (here (order.Ask session st) is)) p

    pub as-long : (session : ℕ) (e : TextEdit) (lines : ℕ) → given ≡ order.TooLong session e lines
        → ((text : List (List ℕ)) → length text ≡ lines → P (Ask session (step.One (edit_with e text)))) → P asked
    as-long session e lines is p = let h = here (order.TooLong session e lines) is in subst P (sym h.is) (p h.text (sym h.counted))

    pub as-lost : (session adds : ℕ) → given ≡ order.Lost session adds → ((lost : Step) → adds ≡ adds_in (commands_of_step lost) → P (Ask session lost)) → P asked
    as-lost session adds is p = let h = here (order.Lost session adds) is in subst P (sym h.is) (p h.lost h.counted)

    pub as-tell : (session : ℕ) (q : Question) → given ≡ order.Tell session q → P (Tell session q) → P asked
    as-tell session q is p = subst P (sym (here (order.Tell session q) is)) p
