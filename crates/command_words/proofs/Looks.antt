-- The four looks of a word.
use Rattle.std.proofs.Common.{◌≡◌, ◌∙◌, ℕ, suc, refl, sym, ap, subst, arith, Bool, true, false, List, [], ◌∷◌, length, Some, None}
use Rattle.std.specs.Prelude.{◌==◌, IsUtf8, encode_utf8_all}
use Rattle.std.specs.Char.{encode_utf8}
use Rattle.std.specs.Str.{bytes_eq, chars}
use Rattle.std.proofs.lemmas.Str.{chars_past_char, encodes-chars}
use Rattle.clap.specs.Lexer.{long_of, short_of}
use Rattle.knit_base.proofs.Places.{by_test}
use Rattle.command_words.specs.Grammar.{Text, begins_with_hyphen, is_end_of_options, option_name, option_text, option_value}
use Rattle.command_words.proofs.Turns.{IsPlainWord, dashes}

-- a word is `--`, an option, letters behind a single `-`, or a plain word
pub data Looks (word : Text) : Type 0 where
  ends : word ≡ dashes → Looks word
  long : (text : Text) → bytes_eq word dashes ≡ false → long_of word ≡ Some (option_name text, option_value text) → option_text word ≡ Some text
      → is_end_of_options (Some text) ≡ false → Looks word
  short : (flags : Text) (k x : ℕ) (xs : List ℕ) → bytes_eq word dashes ≡ false → long_of word ≡ None → short_of word ≡ Some flags → length flags ≡ suc k
      → chars flags ≡ x ∷ xs → option_text word ≡ None → begins_with_hyphen word ≡ true → Looks word
  plain : IsPlainWord word → option_text word ≡ None → Looks word

-- what follows a hyphen has a character
some_char : (y : ℕ) (ys : List ℕ) → IsUtf8 (45 ∷ y ∷ ys) → (x : ℕ) × (xs : List ℕ) × (chars (y ∷ ys) ≡ x ∷ xs)
unfolding encode_utf8
some_char y ys u = go (chars (y ∷ ys)) refl
  where
    first : chars (45 ∷ y ∷ ys) ≡ 45 ∷ chars (y ∷ ys)
    first = chars_past_char (45 ∷ y ∷ ys) (y ∷ ys) 45 u refl

    go : (cs : List ℕ) → chars (y ∷ ys) ≡ cs → (x : ℕ) × (xs : List ℕ) × (chars (y ∷ ys) ≡ x ∷ xs)
    go (c ∷ cs) e = (c, cs, e)
    go [] e =
        let whole : encode_utf8_all (45 ∷ []) ≡ 45 ∷ y ∷ ys = ap encode_utf8_all (sym (first ∙ ap (λ l. 45 ∷ l) e)) ∙ encodes-chars (45 ∷ y ∷ ys) u in
        let long : 1 ≡ suc (suc (length ys)) = ap length whole in
        absurd (omega arith)

other_head : (x : ℕ) (xs : List ℕ) → (x == 45) ≡ false → bytes_eq (x ∷ xs) dashes ≡ false
other_head x xs e = rw e refl

other_second : (x : ℕ) (xs : List ℕ) → (x == 45) ≡ false → bytes_eq (45 ∷ x ∷ xs) dashes ≡ false
other_second x xs e = rw e refl

after_two : (xs : List ℕ) → IsUtf8 (45 ∷ 45 ∷ xs) → Looks (45 ∷ 45 ∷ xs)
after_two [] u = ends refl
after_two (z ∷ zs) u = long (z ∷ zs) refl refl refl refl

after_one : (xs : List ℕ) → IsUtf8 (45 ∷ xs) → Looks (45 ∷ xs)
after_one [] u = plain (record { other = refl; long = refl; short = refl }) refl
after_one (y ∷ ys) u = by_test (y == 45)
    (λ e. let same : y ≡ 45 = grind (arith, e) in subst (λ k. Looks (45 ∷ k ∷ ys)) (sym same) (after_two ys (subst (λ k. IsUtf8 (45 ∷ k ∷ ys)) same u)))
    (λ e. let c = some_char y ys u in
    short (y ∷ ys) (length ys) c.0 c.1 (other_second y ys e) (rw e refl) (rw e refl) refl c.2 (rw e refl) refl)

-- every text has one of these looks
pub every_word_looks : (word : Text) → IsUtf8 word → Looks word
every_word_looks [] u = plain (record { other = refl; long = refl; short = refl }) refl
every_word_looks (x ∷ xs) u = by_test (x == 45)
    (λ e. let same : x ≡ 45 = grind (arith, e) in subst (λ k. Looks (k ∷ xs)) (sym same) (after_one xs (subst (λ k. IsUtf8 (k ∷ xs)) same u)))
    (λ e. plain (record { other = other_head x xs e; long = rw e refl; short = rw e refl }) (rw e refl))
