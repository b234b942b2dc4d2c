-- The text of a text line is a text.
use Rattle.std.proofs.Common.{◌≡◌, ℕ, ◌<◌, Bool, true, false, cond, ◌&&◌, Option, Some, None, codes, refl, ◌≢◌, List, [], ◌∷◌, length, drop, get_or, sym, ap, ◌∙◌, subst, arith, length-drop}
use Rattle.std.specs.Str.{IsCharBoundary, bytes_eq}
use Rattle.std.proofs.lemmas.List.Elements.{All-drop}
use Rattle.std.proofs.lemmas.Slice.Eq.{bytes_eq-Decides}
use Rattle.std.proofs.lemmas.Str.{IsUtf8-from_is_utf8, is_utf8-from_IsUtf8, IsUtf8-drop, IsCharBoundary-after_ascii}
use Rattle.knit_base.specs.Lines.{IsLine, MayLoseFirst}
use Rattle.script_reader.specs.Reading.{IsTextLine}
use Rattle.script_reader.specs.Statements.{is_skipped, is_text_line, kind_of, kind_of_words, command_line_of, mark_of}
use Rattle.script_reader.specs.declared.line.CommandLine.{CommandLine}
use Rattle.script_reader.specs.declared.line.CommandLine.TheVariants.{Look, Put, Add, Cut, LoopAt, Verdict, LookHead}
use Rattle.script_reader.specs.declared.line.Kind.{Kind}
use Rattle.script_reader.specs.declared.line.Kind.TheVariants as kind
use Rattle.script_reader.specs.declared.line.Mark as marks
use Rattle.knitout_reader.specs.Tokens.{tokens_of}
use Rattle.std.specs.Option.{option_map, option_map_or}
use Rattle.script_reader.specs.Script.{is_put_head}
use Rattle.script_reader.specs.Words.{name_in, number_in, anchor_in_word}

first_byte : (line : List ℕ) → is_text_line line ≡ true → (0 < length line) × (get_or line 0 0 ≡ 124)
first_byte [] is = absurd (cc)
first_byte (byte ∷ bytes) is = let same : 124 ∷ [] ≡ byte ∷ [] = (bytes_eq-Decides (124 ∷ []) (byte ∷ [])).0 is in (omega arith, ap (λ (l : List ℕ). get_or l 0 0) (sym same))

pub may_cut : (line : List ℕ) → IsLine line → is_text_line line ≡ true → IsCharBoundary line 1
may_cut line is text = let first = first_byte line text in IsCharBoundary-after_ascii line 0 (IsUtf8-from_is_utf8 line is.utf8) first.0 (omega (arith, first.1))

pub text_is_line : (line : List ℕ) → IsLine line → is_text_line line ≡ true → IsLine (drop 1 line)
text_is_line line is text = record {
  utf8 = is_utf8-from_IsUtf8 (drop 1 line) (IsUtf8-drop line 1 (IsUtf8-from_is_utf8 line is.utf8) (may_cut line is text));
  one = All-drop (λ byte. byte ≢ 10) 1 line is.one;
  short = let short = is.short in omega (arith, length-drop 1 line);
}

-- a line of words is neither skipped nor a text
abbrev is_plain : Kind → Bool
is_plain kind.Skipped = false
is_plain kind.Text = false
is_plain kind.Session = true
is_plain (kind.Command command_line) = true
is_plain kind.Header = true
is_plain (kind.Mark mark) = true
is_plain kind.Other = true

one_word_plain : (a b : Bool) (o : Option marks.Mark) → is_plain (cond a kind.Session (cond b (kind.Command Verdict) (option_map_or kind.Mark o kind.Other))) ≡ true
one_word_plain true b o = refl
one_word_plain false true o = refl
one_word_plain false false None = refl
one_word_plain false false (Some mark) = refl

two_words_plain : (a : Bool) (o : Option CommandLine) → is_plain (cond a kind.Header (option_map_or kind.Command o kind.Other)) ≡ true
two_words_plain true o = refl
two_words_plain false None = refl
two_words_plain false (Some h) = refl

words_plain : (words : List (List ℕ)) → is_plain (kind_of_words words) ≡ true
words_plain [] = refl
words_plain (word ∷ []) = one_word_plain (bytes_eq word (codes "session")) (bytes_eq word (codes "verdict")) (mark_of word)
words_plain (word ∷ operand ∷ []) = two_words_plain (bytes_eq word (codes "put") && bytes_eq operand (codes "head")) (command_line_of word operand)
words_plain (word ∷ operand ∷ more ∷ words) = refl

-- what is skipped, and what isn't
pub skipped_kind : (line : List ℕ) → is_skipped line ≡ true → kind_of line ≡ kind.Skipped
skipped_kind line is = ap (λ b. cond b kind.Skipped (cond (is_text_line line) kind.Text (kind_of_words (tokens_of line)))) is

pub not_skipped_kind : (line : List ℕ) → is_skipped line ≡ false → kind_of line ≢ kind.Skipped
not_skipped_kind line isnt = go (is_skipped line) isnt (is_text_line line)
  where
    go : (a : Bool) → a ≡ false → (b : Bool) → cond a kind.Skipped (cond b kind.Text (kind_of_words (tokens_of line))) ≢ kind.Skipped
    go true isnt b = absurd (cc)
    go false isnt true = λ is. cc
    go false isnt false = λ is. let clash : true ≡ false = sym (words_plain (tokens_of line)) ∙ ap is_plain is in cc

-- no command line of a line is that of `put head`
named_no_put : {A : Type 0} (f : A → CommandLine) → ((a : A) → is_put_head (f a) ≡ false) → (o : Option A) (h : CommandLine) → option_map f o ≡ Some h → is_put_head h ≡ false
named_no_put f isnt None h is = absurd (cc)
named_no_put f isnt (Some a) h is = let same : f a ≡ h = cc in subst (λ c. is_put_head c ≡ false) same (isnt a)

line_no_put : (word operand : List ℕ) (h : CommandLine) → command_line_of word operand ≡ Some h → is_put_head h ≡ false
line_no_put word operand h is = go (bytes_eq word (codes "look")) (bytes_eq operand (codes "head")) (bytes_eq word (codes "put")) (bytes_eq word (codes "add")) (bytes_eq word (codes "cut")) (bytes_eq word (codes "loop")) is
  where
    go : (a b c d e f : Bool) → cond a (cond b (Some LookHead) (option_map Look (name_in operand))) (cond c (option_map Put (name_in operand)) (cond d (option_map Add (anchor_in_word operand)) (cond e (option_map Cut (name_in operand)) (cond f (option_map LoopAt (number_in operand)) None)))) ≡ Some h → is_put_head h ≡ false
    go true true c d e f is = let same : LookHead ≡ h = cc in subst (λ x. is_put_head x ≡ false) same refl
    go true false c d e f is = named_no_put Look (λ a. refl) (name_in operand) h is
    go false b true d e f is = named_no_put Put (λ a. refl) (name_in operand) h is
    go false b false true e f is = named_no_put Add (λ a. refl) (anchor_in_word operand) h is
    go false b false false true f is = named_no_put Cut (λ a. refl) (name_in operand) h is
    go false b false false false true is = named_no_put LoopAt (λ a. refl) (number_in operand) h is
    go false b false false false false is = absurd (cc)

two_words_no_put : (a : Bool) (word operand : List ℕ) (h : CommandLine) → cond a kind.Header (option_map_or kind.Command (command_line_of word operand) kind.Other) ≡ kind.Command h → is_put_head h ≡ false
two_words_no_put true word operand h is = absurd (cc)
two_words_no_put false word operand h is = go (command_line_of word operand) refl is
  where
    go : (o : Option CommandLine) → command_line_of word operand ≡ o → option_map_or kind.Command o kind.Other ≡ kind.Command h → is_put_head h ≡ false
    go None has is = absurd (cc)
    go (Some found) has is = let same : found ≡ h = cc in line_no_put word operand h (has ∙ ap (λ (c : CommandLine). Some c) same)

one_word_no_put : (a b : Bool) (o : Option marks.Mark) (h : CommandLine) → cond a kind.Session (cond b (kind.Command Verdict) (option_map_or kind.Mark o kind.Other)) ≡ kind.Command h → is_put_head h ≡ false
one_word_no_put true b o h is = absurd (cc)
one_word_no_put false true o h is = let same : Verdict ≡ h = cc in subst (λ x. is_put_head x ≡ false) same refl
one_word_no_put false false None h is = absurd (cc)
one_word_no_put false false (Some mark) h is = absurd (cc)

words_no_put : (words : List (List ℕ)) (h : CommandLine) → kind_of_words words ≡ kind.Command h → is_put_head h ≡ false
words_no_put [] h is = absurd (cc)
words_no_put (word ∷ []) h is = one_word_no_put (bytes_eq word (codes "session")) (bytes_eq word (codes "verdict")) (mark_of word) h is
words_no_put (word ∷ operand ∷ []) h is = two_words_no_put (bytes_eq word (codes "put") && bytes_eq operand (codes "head")) word operand h is
words_no_put (word ∷ operand ∷ more ∷ words) h is = absurd (cc)

pub no_put_head : (line : List ℕ) (h : CommandLine) → kind_of line ≡ kind.Command h → is_put_head h ≡ false
no_put_head line h is = go (is_skipped line) (is_text_line line) is
  where
    go : (a b : Bool) → cond a kind.Skipped (cond b kind.Text (kind_of_words (tokens_of line))) ≡ kind.Command h → is_put_head h ≡ false
    go true b r = absurd (cc)
    go false true r = absurd (cc)
    go false false r = words_no_put (tokens_of line) h r

-- a text line is what its first byte says
pub text_kind : (line : List ℕ) → kind_of line ≡ kind.Text → is_text_line line ≡ true
text_kind line is = go (is_skipped line) (is_text_line line) is
  where
    go : (a b : Bool) → cond a kind.Skipped (cond b kind.Text (kind_of_words (tokens_of line))) ≡ kind.Text → b ≡ true
    go true true r = refl
    go false true r = refl
    go true false r = absurd (cc)
    go false false r = let clash : true ≡ false = sym (words_plain (tokens_of line)) ∙ ap is_plain r in absurd (cc)

-- a line that begins as a text line is one
pub text_line_kind : (line : List ℕ) → is_text_line line ≡ true → kind_of line ≡ kind.Text
text_line_kind [] is = absurd (cc)
text_line_kind (byte ∷ bytes) is =
    let same : 124 ∷ [] ≡ byte ∷ [] = (bytes_eq-Decides (124 ∷ []) (byte ∷ [])).0 is in
    subst (λ b. kind_of (b ∷ bytes) ≡ kind.Text) (ap (λ (l : List ℕ). get_or l 0 0) same) refl

-- what it says behind its first byte is a line
pub text_may_lose : (line : List ℕ) → IsTextLine line → MayLoseFirst line
text_may_lose line is = record { some = (first_byte line is.begins).0; rest = text_is_line line is.is_line is.begins }
