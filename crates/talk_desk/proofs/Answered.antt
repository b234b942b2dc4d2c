-- The orders of a line were answered, one after the other, and the conversation stands behind the line.
use Rattle.std.proofs.Common.{◌≡◌, ◌≢◌, ◌∙◌, true, ℕ, ◌+◌, List, [], ◌∷◌, ◌++◌, length, map, Option, Some, None, ap, subst, sym, refl, append-nil, append_assoc}
use Rattle.std.proofs.lemmas.List.Elements.{All-take}
use Rattle.knit_base.specs.Lines.{HasNoLineEnd, without_return}
use Rattle.knit_ports.specs.Ears.{kept_front}
use Rattle.edit_journal.specs.declared.opening.Opening.{Opening}
use Rattle.script_reader.specs.Hearing.{Awaiting, Hearing, Nothing, Order, Ask, Passing, Refuse, Tell, Text, at_end, first_hearing, heard, hearing_behind, left_open, orders_at_end, orders_from}
use Rattle.script_reader.specs.Listener.{Hears}
use Rattle.script_reader.specs.Orders.{AreOrdersOfLine, IsOnlyOrder, OrderStandsFor}
use Rattle.script_reader.specs.declared.command.Command.{Command}
use Rattle.script_reader.specs.declared.listener.Listener.{Listener}
use Rattle.script_reader.specs.declared.fault.Cause.TheVariants.{BadLine}
use Rattle.script_reader.specs.declared.order.Order as declared
use Rattle.edit_groups.specs.Chunks.{entries_of_chunks}
use Rattle.edit_groups.specs.declared.chunk.Chunk.{Chunk}
use Rattle.talk_loop.specs.Conversed.{IsLineAnswered}
use Rattle.talk_loop.specs.InStep.{AreDeskAnswers, state_behind, text_of}
use Rattle.talk_loop.proofs.Steps.{answers-more}
use Rattle.talk_desk.specs.Conversation.{Answer, Standing, asking, standing_at_start, standing_of, text}
use Rattle.talk_desk.specs.Desks.{AreRefusals, AreOrdersTaken, IsAtItsEnd, IsHostBehind, standing_told}
use Rattle.talk_desk.specs.Hosts.{IsAt, IsOrderTaken, known_in, opening_in}
use Rattle.talk_desk.specs.Styles.{IsFinalIn, bad_line_in}
use Rattle.talk_desk.specs.LawfulOrders.{AllOrders, IsSoundHearing}
use Rattle.talk_desk.specs.declared.document.Style.{Style}
use Rattle.talk_desk.specs.declared.host.Host.{Host}
use Rattle.talk_desk.proofs.CutLines.{kept_heard, return_front}
use Rattle.talk_desk.proofs.LawfulOrders.{sound_at_start, sound_heard, sound_lines}
use Rattle.talk_desk.proofs.MoreOrders.{hearing_returned, orders_returned}
use Rattle.talk_desk.proofs.Standings.{standing-more, state-more}

-- a line has no line end without its carriage return
pub returned-one : (line : List ℕ) → HasNoLineEnd line → HasNoLineEnd (without_return line)
returned-one line one = let front = return_front line in subst HasNoLineEnd (sym front.is) (All-take (λ (byte : ℕ). byte ≢ 10) front.count line one)

module _ (style : Style) (opening : Opening) (earlier : List Chunk) (first : ℕ) (told : List (Order × Answer)) (host : Host) (before after : List ℕ) where
  -- nothing was asked
  pub none-taken : IsAt opening host (standing_told style opening earlier told) → AreOrdersTaken style opening earlier first told [] host before before
  none-taken at = record { answers = []; given = tt; at = at; said = sym (append-nil before) }

  -- one order was answered
  pub one-taken : (o : Order) → IsOrderTaken opening (standing_told style opening earlier told) o style host before after → AreOrdersTaken style opening earlier first told (o ∷ []) host before after
  one-taken o t = record {
    answers = t.answer ∷ [];
    given = (t.given, tt);
    at = subst (IsAt opening host) (sym (standing-more style.json style.head opening (standing_at_start style.json style.head opening earlier) told o t.answer)) t.at;
    said = t.said ∙ ap (λ (l : List ℕ). before ++ l) (sym (append-nil (text style.json style.head opening (standing_told style opening earlier told) o t.answer)));
  }

-- an order was answered, and then others
pub more-taken : (style : Style) (opening : Opening) (earlier : List Chunk) (first : ℕ) (told : List (Order × Answer)) (host next : Host) (before between after : List ℕ) (o : Order) (os : List Order) (t : IsOrderTaken opening (standing_told style opening earlier told) o style host before between)
    → AreOrdersTaken style opening earlier first (told ++ (o, t.answer) ∷ []) os next between after → AreOrdersTaken style opening earlier first told (o ∷ os) next before after
more-taken style opening earlier first told host next before between after o os t rest = record {
  answers = t.answer ∷ rest.answers;
  given = (t.given, rest.given);
  at = rest.at;
  said = rest.said ∙ ap (λ (l : List ℕ). l ++ text_of (asking style.json style.head opening earlier first) (told ++ (o, t.answer) ∷ []) os rest.answers) t.said
      ∙ append_assoc before (text style.json style.head opening (standing_told style opening earlier told) o t.answer) (text_of (asking style.json style.head opening earlier first) (told ++ (o, t.answer) ∷ []) os rest.answers);
}

-- where the sessions stand behind one order
pub stands-taken : (style : Style) (opening : Opening) (earlier : List Chunk) (told : List (Order × Answer)) (host : Host) (before after : List ℕ) (o : Order) (t : IsOrderTaken opening (standing_told style opening earlier told) o style host before after)
    → IsAt opening host (standing_told style opening earlier (told ++ (o, t.answer) ∷ []))
stands-taken style opening earlier told host before after o t =
    subst (IsAt opening host) (sym (standing-more style.json style.head opening (standing_at_start style.json style.head opening earlier) told o t.answer)) t.at

-- what a line asks for, of which a front is kept
pub kept-orders : (number : ℕ) (h : Hearing) (line whole : List ℕ) → line ≡ kept_front whole → heard h number (without_return line) ≡ heard h number (without_return whole)
kept-orders number h line whole kept = ap (λ (l : List ℕ). heard h number (without_return l)) kept ∙ kept_heard h number whole

-- each line is heard as it may stand
pub sound-behind : (first : ℕ) (lines : List (List ℕ)) → IsSoundHearing (hearing_behind first_hearing first (map without_return lines))
sound-behind first lines = (sound_lines first_hearing first (map without_return lines) sound_at_start).0

pub lawful-orders : (first number : ℕ) (lines : List (List ℕ)) (line : List ℕ) → AllOrders (heard (hearing_behind first_hearing first (map without_return lines)) number (without_return line)).0
lawful-orders first number lines line = (sound_heard _ number (without_return line) (sound-behind first lines)).1

-- one more line was answered
module _ (host next : Host) (listener heard_since : Listener) (earlier : List Chunk) (first number : ℕ) (lines : List (List ℕ)) (as_ : List Answer) (line whole before after : List ℕ) (b : IsHostBehind host listener earlier first lines as_)
    (counted : number ≡ first + length lines) (kept : line ≡ kept_front whole) (style : next.document.style ≡ host.document.style) (opening : opening_in next.document ≡ opening_in host.document) where
  abbrev pub h : Hearing
  h = hearing_behind first_hearing first (map without_return lines)

  abbrev pub asked : List Order
  asked = (heard h (first + length lines) (without_return whole)).0

  abbrev pub told : List (Order × Answer)
  told = state_behind (asking host.document.style.json host.document.style.head (opening_in host.document) earlier first) [] (orders_from first_hearing first (map without_return lines)) as_

  pub line-heard : heard h number (without_return line) ≡ heard h (first + length lines) (without_return whole)
  line-heard = kept-orders number h line whole kept ∙ ap (λ (n : ℕ). heard h n (without_return whole)) counted

  pub behind-more : Hears heard_since (heard h number (without_return line)).1 → (t : AreOrdersTaken host.document.style (opening_in host.document) earlier first told asked next before after)
      → IsHostBehind next heard_since earlier first (lines ++ whole ∷ []) (as_ ++ t.answers)
  behind-more hears t =
      let orders = orders_returned first_hearing first lines whole in
      let all = answers-more (asking host.document.style.json host.document.style.head (opening_in host.document) earlier first) [] (orders_from first_hearing first (map without_return lines)) as_ asked t.answers b.answered t.given in
      let here : AreDeskAnswers (asking host.document.style.json host.document.style.head (opening_in host.document) earlier first) [] (orders_from first_hearing first (map without_return (lines ++ whole ∷ []))) (as_ ++ t.answers) =
      subst (λ (os : List Order). AreDeskAnswers (asking host.document.style.json host.document.style.head (opening_in host.document) earlier first) [] os (as_ ++ t.answers)) (sym orders) all in
      let stands : IsAt (opening_in host.document) next (standing_of host.document.style.json host.document.style.head (opening_in host.document) earlier first (lines ++ whole ∷ []) (as_ ++ t.answers)) =
      subst (λ (l : List (Order × Answer)). IsAt (opening_in host.document) next (standing_told host.document.style (opening_in host.document) earlier l))
      (sym (ap (λ (os : List Order). state_behind (asking host.document.style.json host.document.style.head (opening_in host.document) earlier first) [] os (as_ ++ t.answers)) orders
      ∙ state-more host.document.style.json host.document.style.head (opening_in host.document) earlier first [] (orders_from first_hearing first (map without_return lines)) as_ asked t.answers b.answered)) t.at in
      record {
        hears = subst (Hears heard_since) (ap (λ x. x.1) line-heard ∙ sym (hearing_returned first_hearing first lines whole)) hears;
        answered = subst (λ (p : Style × Opening). AreDeskAnswers (asking p.0.json p.0.head p.1 earlier first) [] (orders_from first_hearing first (map without_return (lines ++ whole ∷ []))) (as_ ++ t.answers)) (λ i. (sym style i, sym opening i)) here;
        at = subst (λ (p : Style × Opening). IsAt p.1 next (standing_of p.0.json p.0.head p.1 earlier first (lines ++ whole ∷ []) (as_ ++ t.answers))) (λ i. (sym style i, sym opening i)) stands;
      }

  pub answered-more : (t : AreOrdersTaken host.document.style (opening_in host.document) earlier first told asked next before after)
      → IsLineAnswered (asking host.document.style.json host.document.style.head (opening_in host.document) earlier first) lines as_ whole before after t.answers
  answered-more t = record { asked = asked; orders = orders_returned first_hearing first lines whole; given = t.given; text = t.said }

-- what the end of the input asks for is refused
pub end-refusals : (h : Hearing) (number : ℕ) → AreRefusals (orders_at_end h number)
end-refusals h number = at-end h.awaiting h.group
  where
    open-refused : (group : Option (List Command)) → AreRefusals (left_open number group)
    open-refused None = tt
    open-refused (Some commands) = tt

    at-end : (a : Awaiting) (group : Option (List Command)) → AreRefusals (at_end number a group)
    at-end Nothing group = open-refused group
    at-end Passing group = open-refused group
    at-end (Text edits missing text) group = tt

-- refusals are lawful, and change nothing
pub refusals-lawful : (os : List Order) → AreRefusals os → AllOrders os
refusals-lawful [] are = tt
refusals-lawful (Refuse line why ∷ os) are = (tt, refusals-lawful os are)
refusals-lawful (Ask session step ∷ os) are = absurd are
refusals-lawful (Tell session question ∷ os) are = absurd are

-- one order is given for the only one
pub one-told : (order : declared.Order) (os : List Order) → IsOnlyOrder (Some order) os → (o : Order) × (os ≡ o ∷ []) × OrderStandsFor order o
one-told order [] is = absurd is
one-told order (o ∷ []) is = (o, refl, is)
one-told order (o ∷ p ∷ os) is = absurd is

-- a text was broken off, and then others may follow
pub broken-told : (number : ℕ) (order : Option declared.Order) (os : List Order) → AreOrdersOfLine number true order os → (more : List Order) × (os ≡ Refuse number BadLine ∷ more) × IsOnlyOrder order more
broken-told number order [] is = absurd is
broken-told number order (o ∷ os) is = (os, ap (λ (x : Order). x ∷ os) is.0, is.1)

-- a refusal was said, and then the end
pub end-one : (style : Style) (opening : Opening) (s : Standing) (o : Order) (mid : Host) (before between after final : List ℕ) → AreRefusals (o ∷ []) → IsOrderTaken opening s o style mid before between
    → IsFinalIn style.json opening (entries_of_chunks (known_in mid.document)) final → after ≡ between ++ final → IsAtItsEnd style opening s (o ∷ []) before after
end-one style opening s (Refuse line why) mid before between after final are t judged said = record {
  final = final;
  judged = subst (λ (l : List Chunk). IsFinalIn style.json opening (entries_of_chunks l) final) t.at.known judged;
  said = said ∙ ap (λ (l : List ℕ). l ++ final) t.said ∙ append_assoc before (bad_line_in style.json line why) final
      ∙ ap (λ (l : List ℕ). before ++ (l ++ final)) (sym (append-nil (bad_line_in style.json line why)));
}
end-one style opening s (Ask session step) mid before between after final are t judged said = absurd are
end-one style opening s (Tell session question) mid before between after final are t judged said = absurd are
