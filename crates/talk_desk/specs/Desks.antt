-- What a desk keeps of a conversation.
use Rattle.std.specs.Prelude.{◌≡◌, ℕ, List, [], ◌∷◌, ◌++◌, map}
use Rattle.knit_base.specs.Lines.{without_return}
use Rattle.edit_journal.specs.declared.opening.Opening.{Opening}
use Rattle.edit_groups.specs.declared.chunk.Chunk.{Chunk}
use Rattle.script_reader.specs.Hearing.{Order, Refuse, first_hearing, hearing_behind}
use Rattle.script_reader.specs.Listener.{Hears}
use Rattle.script_reader.specs.declared.listener.Listener.{Listener}
use Rattle.talk_loop.specs.InStep.{AreDeskAnswers, state_behind, text_of}
use Rattle.talk_desk.specs.Conversation.{Answer, Standing, asking, journal_of_standing, refusals, standing_at_start, standing_behind, standing_of}
use Rattle.talk_desk.specs.Hosts.{IsAt, opening_in}
use Rattle.talk_desk.specs.Styles.{IsFinalIn}
use Rattle.talk_desk.specs.declared.desk.Beginning.{Beginning}
use Rattle.talk_desk.specs.declared.document.Style.{Style}
use Rattle.talk_desk.specs.declared.host.Host.{Host}

-- what the conversation began with
abbrev pub beginning : Host → List Chunk → ℕ → Beginning
beginning host earlier first = record { style = host.document.style; opening = opening_in host.document; earlier = earlier; first = first }

-- how a conversation stands behind these steps, and then these orders and answers
abbrev pub standing_told : Style → Opening → List Chunk → List (Order × Answer) → Standing
standing_told style opening earlier told = standing_behind style.json style.head opening (standing_at_start style.json style.head opening earlier) told

-- Behind these steps lines were heard, of which the first has this number, and these answers given to what they ask for.
pub record IsHostBehind (host : Host) (listener : Listener) (earlier : List Chunk) (first : ℕ) (lines : List (List ℕ)) (answers : List Answer) : Type 0 where
  pub hears : Hears listener (hearing_behind first_hearing first (map without_return lines))
  pub answered : let a = asking host.document.style.json host.document.style.head (opening_in host.document) earlier first in AreDeskAnswers a a.start (a.orders lines) answers
  pub at : IsAt (opening_in host.document) host (standing_of host.document.style.json host.document.style.head (opening_in host.document) earlier first lines answers)

-- Behind these orders and answers more orders were answered, one after the other, and that was said behind what was to be said before.
pub record AreOrdersTaken (style : Style) (opening : Opening) (earlier : List Chunk) (first : ℕ) (told : List (Order × Answer)) (asked : List Order) (host : Host) (before after : List ℕ) : Type 0 where
  pub answers : List Answer
  pub given : AreDeskAnswers (asking style.json style.head opening earlier first) told asked answers
  pub at : IsAt opening host (standing_told style opening earlier (state_behind (asking style.json style.head opening earlier first) told asked answers))
  pub said : after ≡ before ++ text_of (asking style.json style.head opening earlier first) told asked answers

-- each of the orders refuses a line
abbrev pub AreRefusals : List Order → Type 0
AreRefusals [] = Unit {0}
AreRefusals (Refuse line why ∷ os) = AreRefusals os
AreRefusals (o ∷ os) = ⊥

-- Behind these refusals the conversation was ended, where the sessions were at the standing s: that was said behind what was to be said before.
pub record IsAtItsEnd (style : Style) (opening : Opening) (s : Standing) (asked : List Order) (before after : List ℕ) : Type 0 where
  pub final : List ℕ
  pub judged : IsFinalIn style.json opening (journal_of_standing style.json style.head opening s) final
  pub said : after ≡ before ++ (refusals style.json style.head opening asked ++ final)
