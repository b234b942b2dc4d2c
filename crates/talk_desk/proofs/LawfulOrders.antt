-- Each step that lines ask for is lawful, and of a session below 64.
use Rattle.std.proofs.Common.{ℕ, ◌+◌, ◌<◌, nat_lt, List, [], ◌∷◌, drop, codes, Option, Some, None, arith}
use Rattle.std.specs.Option.{option_map_or}
use Rattle.std.specs.Str.{bytes_eq}
use Rattle.script_reader.specs.Hearing.{Awaiting, Hearing, Nothing, Passing, Text}
use Rattle.script_reader.specs.Hearing.{asks, heard_behind_orders, broken_off, fault_of, first_hearing, heard}
use Rattle.script_reader.specs.Hearing.{hearing_behind, line_heard, orders_from, other_heard, hearing_settled, text_heard}
use Rattle.script_reader.specs.Statements.{is_skipped, is_text_line}
use Rattle.script_reader.specs.TalkLines.{asked_by_words, talk_line_asking, command_in, talk_line_of}
use Rattle.script_reader.specs.Words.{number_in}
use Rattle.script_reader.specs.declared.fault.Cause.{Cause}
use Rattle.script_reader.specs.declared.fault.Cause.TheVariants.{BadLine, ManySessions}
use Rattle.talk_desk.specs.LawfulOrders.{AllOrders, IsSoundHearing}
use Rattle.talk_desk.proofs.AskedForms.{Asked, IsAskedIn, on_test, words_asked}
use Rattle.talk_desk.proofs.WellHeard.{IsWell, all_more, broken_lawful, refused_well, hearing_at_rest_asks_nothing, text_well}

pub sound_at_start : IsSoundHearing first_hearing
sound_at_start = record { low = omega arith; fair = tt; may = tt }

-- a text that a command line breaks off leaves no group open
settled_sound : (h : Hearing) (a : Awaiting) → IsSoundHearing h → IsSoundHearing (hearing_settled h a)
settled_sound h Nothing sound = sound
settled_sound h Passing sound = hearing_at_rest_asks_nothing h Nothing tt sound
settled_sound h (Text edits missing before) sound = hearing_at_rest_asks_nothing h Nothing tt sound

-- the type of what a line says, which has no name here
abbrev told_of : {A : Type 0} → (List ℕ → A) → Type 0
told_of {A} f = A

abbrev TalkLine : Type 0
TalkLine = told_of talk_line_of

on_option : {A K : Type 0} (M : K → Type 0) (f : A → K) (o : Option A) (d : K) → ((a : A) → M (f a)) → M d → M (option_map_or f o d)
on_option M f None d some none = none
on_option M f (Some a) d some none = some a

-- a line that is no text line
record IsLineWell (h : Hearing) (line : ℕ) (t : TalkLine) : Type 0 where
  told : IsWell (line_heard h line t)

module _ (h : Hearing) (line : ℕ) (sound : IsSoundHearing h) where
  abbrev LineWell : TalkLine → Type 0
  LineWell t = IsLineWell h line t

  settled_asks : (session : ℕ) (a : Asked) → IsAskedIn (Some a) → session < 64
      → IsWell (heard_behind_orders (broken_off line h.awaiting) (asks (hearing_settled h h.awaiting) line session a))
  settled_asks session a asked low =
      let is = asked.told (hearing_settled h h.awaiting) line session (settled_sound h h.awaiting sound) low in
      let well = is.told in
      let all = all_more (broken_off line h.awaiting) _ (broken_lawful line h.awaiting) well.lawful in
      record { sound = well.sound; lawful = all }

  asked_well : (session : ℕ) (o : Option Asked) → IsAskedIn o → LineWell (talk_line_asking session o)
  asked_well session None asked = record { told = refused_well h line BadLine sound }
  asked_well session (Some a) asked =
      on_test LineWell (nat_lt session 64) _ _
      (λ low. let below : session < 64 = grind arith in record { told = settled_asks session a asked below })
      (λ high. record { told = refused_well h line ManySessions sound })

  command_well : (words : List (List ℕ)) → LineWell (command_in words)
  command_well [] = record { told = refused_well h line BadLine sound }
  command_well (word ∷ []) = asked_well 0 (asked_by_words (word ∷ [])) (words_asked (word ∷ []))
  command_well (word ∷ number ∷ words) =
      on_test LineWell (bytes_eq word (codes "session")) _ _
      (λ is. on_option LineWell _ (number_in number) _ (λ session. asked_well session (asked_by_words words) (words_asked words))
      (record { told = refused_well h line BadLine sound }))
      (λ isnt. asked_well 0 (asked_by_words (word ∷ number ∷ words)) (words_asked (word ∷ number ∷ words)))

  line_well : (text : List ℕ) → LineWell (talk_line_of text)
  line_well text =
      on_test LineWell (is_text_line text) _ _ (λ is. record { told = record { sound = sound; lawful = tt } })
      (λ isnt. on_test LineWell (is_skipped text) _ _ (λ is. record { told = record { sound = sound; lawful = tt } })
      (λ isnt. search (command_well)))

  other_well : (fault : Option Cause) (text : List ℕ) → IsWell (other_heard h line fault text)
  other_well (Some cause) text = refused_well h line cause sound
  other_well None text = let well = line_well text in well.told

  heard_well : (text : List ℕ) → IsWell (heard h line text)
  heard_well text =
      let fault = fault_of text in
      on_test IsWell (is_text_line text) (text_heard h h.awaiting line fault (drop 1 text)) (other_heard h line fault text)
      (λ is. text_well h h.awaiting line fault (drop 1 text) sound sound.may) (λ isnt. other_well fault text)

-- one more line
pub sound_heard : (h : Hearing) (number : ℕ) (line : List ℕ) → IsSoundHearing h
    → IsSoundHearing (heard h number line).1 × AllOrders (heard h number line).0
sound_heard h number line sound = let well = heard_well h number sound line in (well.sound, well.lawful)

-- more lines
pub sound_lines : (h : Hearing) (number : ℕ) (lines : List (List ℕ)) → IsSoundHearing h
    → IsSoundHearing (hearing_behind h number lines) × AllOrders (orders_from h number lines)
sound_lines h number [] sound = (sound, tt)
sound_lines h number (line ∷ lines) sound =
    let first = sound_heard h number line sound in
    let rest = sound_lines (heard h number line).1 (number + 1) lines first.0 in
    (rest.0, all_more (heard h number line).0 (orders_from (heard h number line).1 (number + 1) lines) first.1 rest.1)
