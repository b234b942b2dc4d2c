-- Where what is pending fails, the words fail, whatever follows.
use Rattle.std.proofs.Common.{◌≡◌, ℕ, refl, sym, subst, true, false, List, [], ◌∷◌, Option, Some, None}
use Rattle.std.specs.Prelude.{IsUtf8}
use Rattle.std.specs.List.{AllByRecursion}
use Rattle.clap.specs.Walk.{Held, Waiting, idle, option}
use Rattle.clap.specs.Faults.{settle_fault}
use Rattle.command_words.specs.Grammar.{Name, Text, is_flag, option_with_name, option_name, option_value, option_spelling}
use Rattle.command_words.proofs.Rules.{Spot, command_shape, by_id, waiting_use}
use Rattle.command_words.proofs.Looks.{Looks, ends, long, short, plain, every_word_looks}
use Rattle.command_words.proofs.Turns.{Fails, IsLong, at, dashes, faults_at_end, faults_from, faults_step, faults_stuck, fails_here, long_stuck, move_dashes, past_stuck, place_of, place_turn, short_stuck, trailing_stuck, trailing_turn, turn_dashes, unknown_stuck}

-- what is pending fails behind `--`, whatever follows
pub trailing_doomed : (words : List Text) (h : Held) (waiting : Waiting) (place : Option Spot) → Fails (settle_fault command_shape.rules false h)
    → Fails (faults_from (at h waiting (place_of place) true) words)
trailing_doomed [] h waiting place bad = rw (faults_at_end (at h waiting (place_of place) true)) bad
trailing_doomed (word ∷ words) h waiting (Some s) bad = faults_stuck _ word words (rw (trailing_turn h s waiting word) bad)
trailing_doomed (word ∷ words) h waiting None bad = faults_stuck _ word words (trailing_stuck h waiting word)

-- `--` where what is pending fails
dashes_doomed : (words : List Text) (h : Held) (waiting : Waiting) (place : Option Spot) (word : Text) → word ≡ dashes → Fails (settle_fault command_shape.rules false h)
    → Fails (faults_from (at h waiting (place_of place) false) (word ∷ words))
dashes_doomed words h waiting place word is bad =
    subst (λ w. Fails (faults_from (at h waiting (place_of place) false) (w ∷ words))) (sym is)
    (subst Fails (sym (faults_step _ _ dashes words (turn_dashes h waiting (place_of place)) (move_dashes h waiting (place_of place))))
    (trailing_doomed words h waiting place bad))

-- a word that begins with `--` where what is pending fails, or that names nothing
pub long_doomed : (words : List Text) (h : Held) (waiting : Waiting) (p : ℕ) (word name : Text) (v : Option Text) → Rattle.std.specs.Str.bytes_eq word dashes ≡ false
    → Rattle.clap.specs.Lexer.long_of word ≡ Some (name, v) → Fails (settle_fault command_shape.rules false h) → Fails (faults_from (at h waiting p false) (word ∷ words))
long_doomed words h waiting p word name v other is bad = go (option_with_name name) refl
  where
    go : (o : Option Name) → option_with_name name ≡ o → Fails (faults_from (at h waiting p false) (word ∷ words))
    go None e = faults_stuck _ word words (unknown_stuck h waiting p word name v other is e)
    go (Some n) e = faults_stuck _ word words (long_stuck h waiting p word name v n (record { other = other; long = is; names = e }) bad)

-- it fails where no option waits for its value
pub idle_doomed : (words : List Text) (h : Held) (place : Option Spot) → AllByRecursion IsUtf8 words → h.skip ≡ 0 → Fails (settle_fault command_shape.rules false h)
    → Fails (faults_from (at h idle (place_of place) false) words)
idle_doomed [] h place u skip bad = rw (faults_at_end (at h idle (place_of place) false)) bad
idle_doomed (word ∷ words) h place u skip bad = go place (every_word_looks word u.0)
  where
    go : (q : Option Spot) → Looks word → Fails (faults_from (at h idle (place_of q) false) (word ∷ words))
    go q (ends is) = dashes_doomed words h idle q word is bad
    go q (long text other is spelled some) = long_doomed words h idle (place_of q) word (option_name text) (option_value text) other is bad
    go q (short flags k x xs other none is some begins spelled hyphen) =
        faults_stuck _ word words (short_stuck h idle (place_of q) word flags k x xs other none is some begins skip)
    go (Some s) (plain is none) = faults_stuck _ word words (rw (place_turn h s word is) bad)
    go None (plain is none) = faults_stuck _ word words (past_stuck h word is)

-- an option that waits, and has no value to come
pub waiting_fails : (n : Name) (h : Held) → is_flag n ≡ false → h.pending ≡ Some (option_spelling n, []) → Fails (settle_fault command_shape.rules false h)
waiting_fails n h flag is = rw (is, by_id n, waiting_use n h.rows flag) (fails_here _ _)

-- and where an option waits, and the word is no value
pub waiting_doomed : (words : List Text) (h : Held) (place : Option Spot) (n : Name) (word : Text) → Looks word → (Rattle.command_words.proofs.Turns.IsPlainWord word → ⊥) → h.skip ≡ 0
    → is_flag n ≡ false → h.pending ≡ Some (option_spelling n, []) → Fails (faults_from (at h (option (option_spelling n)) (place_of place) false) (word ∷ words))
waiting_doomed words h place n word (ends is) no_plain skip flag pending = dashes_doomed words h (option (option_spelling n)) place word is (waiting_fails n h flag pending)
waiting_doomed words h place n word (long text other is spelled some) no_plain skip flag pending =
    long_doomed words h (option (option_spelling n)) (place_of place) word (option_name text) (option_value text) other is (waiting_fails n h flag pending)
waiting_doomed words h place n word (short flags k x xs other none is some begins spelled hyphen) no_plain skip flag pending =
    faults_stuck _ word words (short_stuck h (option (option_spelling n)) (place_of place) word flags k x xs other none is some begins skip)
waiting_doomed words h place n word (plain is none) no_plain skip flag pending = absurd (no_plain is)
