-- What one word does to the walk of the one command.
use Rattle.std.proofs.Common.{◌≡◌, ◌∙◌, ℕ, suc, refl, ap, Bool, true, false, cond, List, [], ◌∷◌, length, ◌&&◌, Option, Some, None, option_map}
use Rattle.std.specs.Prelude.{◌+◌}
use Rattle.std.specs.List.{fold}
use Rattle.std.specs.Str.{bytes_eq, chars}
use Rattle.clap.specs.Lexer.{long_of, short_of}
use Rattle.clap.specs.Walk.{Held, Row, Waiting, Walk, idle, option, positional, positional_held, arg_by_long, reacted, settled, walked, subcommand_met, pushed, is_pending, takes_several}
use Rattle.clap.specs.Faults.{settle_fault, use_fault, turn_fault, walk_fault, flags_fault, positional_fault}
use Rattle.clap.specs.Kinds.{Kinds, or_else}
use Rattle.clap.specs.declared.error.kind.ErrorKind.{ErrorKind}
use Rattle.std.proofs.lemmas.Bool.{true≢false}
use Rattle.command_words.specs.Grammar.{Name, Text, Low, High, Rack, Hold, Block, Float, Loops, Json, option_spelling, is_flag, option_with_name}
use Rattle.command_words.proofs.Rules.{Spot, first, second, third, command_shape, rule_of_option, spot_rule, spot_id, spot_at, by_long, by_index, takes_its_value, rule_id}

-- there is a fault
abbrev pub Fails : Kinds → Type 0
Fails ks = ks ≡ [] → ⊥

-- the first fault is one
pub fails_here : (k : ErrorKind) (ks : Kinds) → Fails (k ∷ ks)
fails_here k ks e = cc

-- a fault of the first is one of both
pub fails_first : (ks ls : Kinds) → Fails ks → Fails (or_else ks ls)
fails_first [] ls h e = h refl
fails_first (k ∷ ks) ls h e = h e

-- the walk that holds this, waits so, and stands at this place, behind `--` or not
abbrev pub at : Held → Waiting → ℕ → Bool → Walk
at h waiting position is_trailing = record { held = h; waiting = waiting; position = position; is_trailing = is_trailing; stopped = None }

-- the walk after the words
abbrev pub end_of : Walk → List Text → Walk
end_of w words = fold (walked command_shape.rules []) w words

-- the faults of the words from here on, and of what is left at their end
abbrev pub faults_from : Walk → List Text → Kinds
faults_from w words = or_else (walk_fault command_shape [] w words) (settle_fault command_shape.rules false (end_of w words).held)

-- at the end what is pending is settled
pub faults_at_end : (w : Walk) → faults_from w [] ≡ settle_fault command_shape.rules false w.held
unfolding walk_fault
faults_at_end w = refl

-- a word without a fault is passed
pub faults_step : (w after : Walk) (word : Text) (words : List Text) → turn_fault command_shape [] w word ≡ [] → walked command_shape.rules [] w word ≡ after
    → faults_from w (word ∷ words) ≡ faults_from after words
unfolding walk_fault
faults_step w after word words none moves =
    ap (λ ks. or_else (or_else ks (walk_fault command_shape [] (walked command_shape.rules [] w word) words)) (settle_fault command_shape.rules false (end_of w (word ∷ words)).held)) none
    ∙ ap (λ v. faults_from v words) moves

-- a word at fault ends the walk
pub faults_stuck : (w : Walk) (word : Text) (words : List Text) → Fails (turn_fault command_shape [] w word) → Fails (faults_from w (word ∷ words))
unfolding walk_fault
faults_stuck w word words h = fails_first _ _ (fails_first _ _ h)

-- the command has no subcommands
pub no_subcommand : (waiting : Waiting) (word : Text) → subcommand_met [] waiting word ≡ None
no_subcommand idle word = refl
no_subcommand (option id) word = refl
no_subcommand positional word = refl

-- ---- `--`

-- the word `--`
abbrev pub dashes : Text
dashes = 45 ∷ 45 ∷ []

-- it is no fault
pub turn_dashes : (h : Held) (waiting : Waiting) (p : ℕ) → turn_fault command_shape [] (at h waiting p false) dashes ≡ []
turn_dashes h idle p = refl
turn_dashes h (option id) p = refl
turn_dashes h positional p = refl

-- and what follows it is positional
pub move_dashes : (h : Held) (waiting : Waiting) (p : ℕ) → walked command_shape.rules [] (at h waiting p false) dashes ≡ at h waiting p true
unfolding walked
move_dashes h idle p = refl
move_dashes h (option id) p = refl
move_dashes h positional p = refl

-- ---- a word that begins with `--`

-- an unknown option is a fault
pub unknown_stuck : (h : Held) (waiting : Waiting) (p : ℕ) (word name : Text) (v : Option Text) → bytes_eq word dashes ≡ false → long_of word ≡ Some (name, v)
    → option_with_name name ≡ None → Fails (turn_fault command_shape [] (at h waiting p false) word)
unknown_stuck h waiting p word name v other is unknown =
    let found : arg_by_long command_shape.rules name ≡ None = by_long name ∙ ap (option_map rule_of_option) unknown in
    rw (no_subcommand waiting word, other, is, found) (fails_here _ _)

-- the facts of a word that begins with `--` and names an option
pub record IsLong (word name : Text) (v : Option Text) (n : Name) : Type 0 where
  pub other : bytes_eq word dashes ≡ false
  pub long : long_of word ≡ Some (name, v)
  pub names : option_with_name name ≡ Some n

-- an option by its long name has its rule
pub long_rule : (word name : Text) (v : Option Text) (n : Name) → IsLong word name v n → arg_by_long command_shape.rules name ≡ Some (rule_of_option n)
long_rule word name v n is = by_long name ∙ ap (option_map rule_of_option) is.names

-- a flag with a value
pub valued_flag_stuck : (h : Held) (waiting : Waiting) (p : ℕ) (word name v : Text) (n : Name) → IsLong word name (Some v) n → is_flag n ≡ true
    → Fails (turn_fault command_shape [] (at h waiting p false) word)
valued_flag_stuck h waiting p word name v n is flag =
    rw (no_subcommand waiting word, is.other, is.long, long_rule word name (Some v) n is, takes_its_value n, flag) (fails_here _ _)

-- where what is pending fails, so does any option that is known
pub long_stuck : (h : Held) (waiting : Waiting) (p : ℕ) (word name : Text) (v : Option Text) (n : Name) → IsLong word name v n
    → Fails (settle_fault command_shape.rules false h) → Fails (turn_fault command_shape [] (at h waiting p false) word)
long_stuck h waiting p word name (Some v) n is bad = go (is_flag n) refl
  where
    go : (b : Bool) → is_flag n ≡ b → Fails (turn_fault command_shape [] (at h waiting p false) word)
    go true flag = valued_flag_stuck h waiting p word name v n is flag
    go false flag = rw (no_subcommand waiting word, is.other, is.long, long_rule word name (Some v) n is, takes_its_value n, flag) (fails_first _ _ (fails_first _ _ bad))
long_stuck h waiting p word name None n is bad = go (is_flag n) refl
  where
    go : (b : Bool) → is_flag n ≡ b → Fails (turn_fault command_shape [] (at h waiting p false) word)
    go true flag = rw (no_subcommand waiting word, is.other, is.long, long_rule word name None n is, takes_its_value n, flag) (fails_first _ _ (fails_first _ _ bad))
    go false flag = rw (no_subcommand waiting word, is.other, is.long, long_rule word name None n is, takes_its_value n, flag) (fails_first _ _ bad)

-- an option with its value after `=`, and a flag
pub joined_turn : (h : Held) (p : ℕ) (word name v : Text) (n : Name) → IsLong word name (Some v) n → is_flag n ≡ false
    → turn_fault command_shape [] (at h idle p false) word ≡ or_else (or_else (settle_fault command_shape.rules false h) (use_fault false (rule_of_option n) (v ∷ []) (settled command_shape.rules h).rows)) []
joined_turn h p word name v n is flag = rw (is.other, is.long, long_rule word name (Some v) n is, takes_its_value n, flag) refl

-- and is kept
pub joined_move : (h : Held) (p : ℕ) (word name v : Text) (n : Name) → IsLong word name (Some v) n → is_flag n ≡ false
    → walked command_shape.rules [] (at h idle p false) word ≡ at (reacted command_shape.rules (rule_of_option n) (v ∷ []) h) idle p false
unfolding walked
joined_move h p word name v n is flag = rw (is.other, is.long, long_rule word name (Some v) n is, takes_its_value n, flag) refl

-- a flag isn't at fault where what is pending and it itself aren't
pub flag_turn : (h : Held) (p : ℕ) (word name : Text) (n : Name) → IsLong word name None n → is_flag n ≡ true
    → turn_fault command_shape [] (at h idle p false) word ≡ or_else (or_else (settle_fault command_shape.rules false h) (use_fault false (rule_of_option n) [] (settled command_shape.rules h).rows)) []
flag_turn h p word name n is flag = rw (is.other, is.long, long_rule word name None n is, takes_its_value n, flag) refl

-- and is kept
pub flag_move : (h : Held) (p : ℕ) (word name : Text) (n : Name) → IsLong word name None n → is_flag n ≡ true
    → walked command_shape.rules [] (at h idle p false) word ≡ at (reacted command_shape.rules (rule_of_option n) [] h) idle p false
unfolding walked
flag_move h p word name n is flag = rw (is.other, is.long, long_rule word name None n is, takes_its_value n, flag) refl

-- an option that waits for its value
abbrev pub held_awaiting : Name → Held → Held
held_awaiting n h = record (settled command_shape.rules h) { pending = Some (option_spelling n, []) }

-- an option without `=` isn't at fault where what is pending isn't
pub option_turn : (h : Held) (p : ℕ) (word name : Text) (n : Name) → IsLong word name None n → is_flag n ≡ false
    → turn_fault command_shape [] (at h idle p false) word ≡ or_else (settle_fault command_shape.rules false h) []
option_turn h p word name n is flag = rw (is.other, is.long, long_rule word name None n is, takes_its_value n, flag) refl

-- and waits for its value
pub option_move : (h : Held) (p : ℕ) (word name : Text) (n : Name) → IsLong word name None n → is_flag n ≡ false
    → walked command_shape.rules [] (at h idle p false) word ≡ at (held_awaiting n h) (option (option_spelling n)) p false
unfolding walked
option_move h p word name n is flag = rw (is.other, is.long, long_rule word name None n is, takes_its_value n, flag, rule_id n) refl

-- ---- a word that begins with one hyphen

-- letters behind a single `-` are a fault
pub short_stuck : (h : Held) (waiting : Waiting) (p : ℕ) (word flags : Text) (k x : ℕ) (xs : List ℕ) → bytes_eq word dashes ≡ false → long_of word ≡ None → short_of word ≡ Some flags
    → length flags ≡ suc k → chars flags ≡ x ∷ xs → h.skip ≡ 0 → Fails (turn_fault command_shape [] (at h waiting p false) word)
unfolding flags_fault
short_stuck h waiting p word flags k x xs other long short some begins skip = rw (no_subcommand waiting word, other, long, short, skip, some, begins) (fails_here _ _)

-- ---- another word

-- the word is no option, no letters and not `--`
pub record IsPlainWord (word : Text) : Type 0 where
  pub other : bytes_eq word dashes ≡ false
  pub long : long_of word ≡ None
  pub short : short_of word ≡ None

and_false : (b : Bool) (ks : Kinds) → cond (b && false) [] ks ≡ ks
and_false true ks = refl
and_false false ks = refl

not_several : (s : Spot) → takes_several (spot_rule s) ≡ false
not_several first = refl
not_several second = refl
not_several third = refl

-- a positional word is at fault where what is pending is
pub place_fault : (s : Spot) (h : Held) → positional_fault command_shape.rules false (spot_rule s) h ≡ settle_fault command_shape.rules false h
place_fault s h = rw (not_several s) (and_false _ _)

-- the place that comes next: a positional, or none
abbrev pub place_of : Option Spot → ℕ
place_of (Some s) = 1 + spot_at s
place_of None = 4

-- the place behind this one
abbrev pub next_place : Spot → Option Spot
next_place first = Some second
next_place second = Some third
next_place third = None

-- a positional word isn't at fault where what is pending and it itself aren't
pub place_turn : (h : Held) (s : Spot) (word : Text) → IsPlainWord word
    → turn_fault command_shape [] (at h idle (place_of (Some s)) false) word ≡ settle_fault command_shape.rules false h
place_turn h s word is = rw (is.other, is.long, is.short, by_index s) (place_fault s h)

-- a fourth positional word is a fault
pub past_stuck : (h : Held) (word : Text) → IsPlainWord word → Fails (turn_fault command_shape [] (at h idle 4 false) word)
past_stuck h word is = rw (is.other, is.long, is.short) (fails_here _ _)

-- the word is held for the positional
abbrev pub held_positional : Spot → Text → Held → Held
held_positional s word h = record (settled command_shape.rules h) { pending = Some (spot_id s, word ∷ []) }

held_unless : (b : Bool) (h k : Held) → cond (b && false) h k ≡ k
held_unless true h k = refl
held_unless false h k = refl

-- what is kept of a positional word
pub place_held : (h : Held) (s : Spot) (word : Text) → positional_held command_shape.rules (spot_rule s) word h ≡ held_positional s word h
place_held h first word = ap (pushed (spot_id first) word) (held_unless (is_pending (spot_rule first) h.pending) h (settled command_shape.rules h))
place_held h second word = ap (pushed (spot_id second) word) (held_unless (is_pending (spot_rule second) h.pending) h (settled command_shape.rules h))
place_held h third word = ap (pushed (spot_id third) word) (held_unless (is_pending (spot_rule third) h.pending) h (settled command_shape.rules h))

-- a positional word is kept
pub place_move : (h : Held) (s : Spot) (word : Text) → IsPlainWord word
    → walked command_shape.rules [] (at h idle (place_of (Some s)) false) word ≡ at (held_positional s word h) idle (place_of (next_place s)) false
unfolding walked
place_move h first word is = rw (is.other, is.long, is.short) (ap (λ (k : Held). at k idle 2 false) (place_held h first word))
place_move h second word is = rw (is.other, is.long, is.short) (ap (λ (k : Held). at k idle 3 false) (place_held h second word))
place_move h third word is = rw (is.other, is.long, is.short) (ap (λ (k : Held). at k idle 4 false) (place_held h third word))

-- after `--`
pub trailing_turn : (h : Held) (s : Spot) (waiting : Waiting) (word : Text) → turn_fault command_shape [] (at h waiting (place_of (Some s)) true) word ≡ settle_fault command_shape.rules false h
trailing_turn h s waiting word = rw (by_index s) (place_fault s h)

-- behind `--` a fourth positional word is a fault
pub trailing_stuck : (h : Held) (waiting : Waiting) (word : Text) → Fails (turn_fault command_shape [] (at h waiting 4 true) word)
trailing_stuck h waiting word = fails_here _ _

-- behind `--` every word is kept as positional
pub trailing_move : (h : Held) (s : Spot) (waiting : Waiting) (word : Text)
    → walked command_shape.rules [] (at h waiting (place_of (Some s)) true) word ≡ at (held_positional s word h) idle (place_of (next_place s)) true
unfolding walked
trailing_move h first waiting word = ap (λ (k : Held). at k idle 2 true) (place_held h first word)
trailing_move h second waiting word = ap (λ (k : Held). at k idle 3 true) (place_held h second word)
trailing_move h third waiting word = ap (λ (k : Held). at k idle 4 true) (place_held h third word)

-- the value of an option that waits
abbrev pub given : Name → Text → Held → Held
given n word h = record h { pending = Some (option_spelling n, word ∷ []) }

-- the value that an option waits for isn't at fault where it itself isn't
pub value_turn : (h : Held) (rows : List Row) (n : Name) (p : ℕ) (word : Text) → IsPlainWord word
    → turn_fault command_shape [] (at (record h { pending = Some (option_spelling n, []) }) (option (option_spelling n)) p false) word ≡ []
value_turn h rows n p word is = rw (is.other, is.long, is.short) refl

-- and is kept
pub value_move : (h : Held) (n : Name) (p : ℕ) (word : Text) → IsPlainWord word → is_flag n ≡ false
    → walked command_shape.rules [] (at (record h { pending = Some (option_spelling n, []) }) (option (option_spelling n)) p false) word ≡ at (given n word h) idle p false
unfolding walked
value_move h Low p word is flag = rw (is.other, is.long, is.short) refl
value_move h High p word is flag = rw (is.other, is.long, is.short) refl
value_move h Rack p word is flag = rw (is.other, is.long, is.short) refl
value_move h Hold p word is flag = rw (is.other, is.long, is.short) refl
value_move h Block p word is flag = rw (is.other, is.long, is.short) refl
value_move h Float p word is flag = rw (is.other, is.long, is.short) refl
value_move h Loops p word is flag = absurd (true≢false flag)
value_move h Json p word is flag = absurd (true≢false flag)
