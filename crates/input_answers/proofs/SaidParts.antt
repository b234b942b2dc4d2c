-- What short lines of a script say has a spelling.
use Rattle.std.proofs.Common.{◌≡◌, ℕ, Bool, true, false, ◌&&◌, cond, List, [], ◌∷◌, drop, filter, codes, Option, None, Some, IfSome, refl, arith, length-drop}
use Rattle.std.specs.List.{AllByRecursion}
use Rattle.std.specs.Option.{option_map_or}
use Rattle.std.specs.Str.{bytes_eq}
use Rattle.knitout_reader.specs.Head.{names_in_line}
use Rattle.knitout_reader.specs.Tokens.{tokens_of}
use Rattle.script_reader.specs.Statements.{Statement, Nothing, Text, Session, Command, Header, Mark, Nonsense, command_line_of, header_said, is_skipped, is_text_line, kind_of, kind_of_words, mark_of, names_said, says_something, statements_of, text_ahead, text_or, statements_told, told_from}
use Rattle.script_reader.proofs.Texts.{text_is_line}
use Rattle.journal_file.specs.SavedParts.{AreGivenNames, IsShortLine}
use Rattle.input_answers.proofs.GivenNames.{names_given}

-- a text is a short line, and names have a spelling
abbrev pub IsFit : Statement → Type 0
IsFit Nothing = Unit {0}
IsFit (Text text) = IsShortLine text
IsFit Session = Unit {0}
IsFit (Command command_line) = Unit {0}
IsFit (Header names) = AreGivenNames names
IsFit (Mark mark) = Unit {0}
IsFit Nonsense = Unit {0}

-- the text of a text line
text_short : (line : List ℕ) → IsShortLine line → is_text_line line ≡ true → IsShortLine (drop 1 line)
text_short line is text =
    let short = is.short in
    let behind = text_is_line line (record { utf8 = is.utf8; one = is.one; short = omega (arith, short) }) text in
    record { utf8 = behind.utf8; one = behind.one; short = omega (arith, length-drop 1 line, short) }

-- the type of a line's kind, which has no name here
abbrev result_of : {A : Type 0} → (List ℕ → A) → Type 0
result_of {A} f = A

abbrev Kind : Type 0
Kind = result_of kind_of

-- what holds of both, or of a default and of all that an option can give
on_test : {K : Type 0} (M : K → Type 0) (t : Bool) (a b : K) → (t ≡ true → M a) → (t ≡ false → M b) → M (cond t a b)
on_test M true a b passed failed = passed refl
on_test M false a b passed failed = failed refl

on_option : {A K : Type 0} (M : K → Type 0) (f : A → K) (o : Option A) (d : K) → ((a : A) → M (f a)) → M d → M (option_map_or f o d)
on_option M f None d some none = none
on_option M f (Some a) d some none = some a

-- the text that stands in front of lines
record IsAheadFit (line : List ℕ) (rest : Option (List ℕ)) (k : Kind) : Type 0 where
  fit : IfSome (text_or k line rest) IsShortLine

module _ (line : List ℕ) (rest : Option (List ℕ)) where
  abbrev Ahead : Kind → Type 0
  Ahead k = IsAheadFit line rest k

  ahead_words : (words : List (List ℕ)) → Ahead (kind_of_words words)
  ahead_words [] = record { fit = tt }
  ahead_words (word ∷ []) =
      on_test Ahead (bytes_eq word (codes "session")) _ _ (λ is. record { fit = tt })
      (λ is. on_test Ahead (bytes_eq word (codes "verdict")) _ _ (λ is. record { fit = tt }) (λ is. on_option Ahead _ (mark_of word) _ (λ mark. record { fit = tt }) (record { fit = tt })))
  ahead_words (word ∷ operand ∷ []) =
      on_test Ahead (bytes_eq word (codes "put") && bytes_eq operand (codes "head")) _ _ (λ is. record { fit = tt })
      (λ is. on_option Ahead _ (command_line_of word operand) _ (λ command_line. record { fit = tt }) (record { fit = tt }))
  ahead_words (word ∷ operand ∷ more ∷ words) = record { fit = tt }

  ahead_line : IsShortLine line → IfSome rest IsShortLine → Ahead (kind_of line)
  ahead_line short there =
      on_test Ahead (is_skipped line) _ _ (λ is. record { fit = there })
      (λ is. on_test Ahead (is_text_line line) _ _ (λ text. record { fit = text_short line short text }) (λ other. ahead_words (tokens_of line)))

ahead_short : (lines : List (List ℕ)) → AllByRecursion IsShortLine lines → IfSome (text_ahead lines) IsShortLine
ahead_short [] short = tt
ahead_short (line ∷ lines) short = (ahead_line line (text_ahead lines) short.0 (ahead_short lines short.1)).fit

header_fit : (ahead : Option (List ℕ)) → IfSome ahead IsShortLine → IsFit (header_said ahead)
header_fit None short = tt
header_fit (Some text) short = names_given text short

names_fit : (names : Option (List (List ℕ))) → IsFit (names_said names)
names_fit None = tt
names_fit (Some names) = tt

-- what a line says, and those behind it
record IsToldFit (wants : Bool) (line : List ℕ) (ahead : Option (List ℕ)) (rest : Bool → List Statement) (k : Kind) : Type 0 where
  fit : AllByRecursion IsFit (statements_told k wants line ahead rest)

module _ (wants : Bool) (line : List ℕ) (ahead : Option (List ℕ)) (rest : Bool → List Statement) (there : IfSome ahead IsShortLine) (rests : (wants : Bool) → AllByRecursion IsFit (rest wants)) where
  abbrev Told : Kind → Type 0
  Told k = IsToldFit wants line ahead rest k

  told_words : (words : List (List ℕ)) → Told (kind_of_words words)
  told_words [] = record { fit = (tt, rests false) }
  told_words (word ∷ []) =
      on_test Told (bytes_eq word (codes "session")) _ _ (λ is. record { fit = (tt, rests false) })
      (λ is. on_test Told (bytes_eq word (codes "verdict")) _ _ (λ is. record { fit = (tt, rests false) })
      (λ is. on_option Told _ (mark_of word) _ (λ mark. record { fit = (tt, rests false) }) (record { fit = (tt, rests false) })))
  told_words (word ∷ operand ∷ []) =
      on_test Told (bytes_eq word (codes "put") && bytes_eq operand (codes "head")) _ _ (λ is. record { fit = (header_fit ahead there, rests true) })
      (λ is. on_option Told _ (command_line_of word operand) _ (λ command_line. record { fit = (tt, rests false) }) (record { fit = (tt, rests false) }))
  told_words (word ∷ operand ∷ more ∷ words) = record { fit = (tt, rests false) }

told_text : (wants : Bool) (line : List ℕ) (ahead : Option (List ℕ)) (rest : Bool → List Statement) (there : IfSome ahead IsShortLine) (rests : (wants : Bool) → AllByRecursion IsFit (rest wants)) → IsShortLine (drop 1 line) → IsToldFit wants line ahead rest (kind_of (codes "|"))
told_text false line ahead rest there rests short = record { fit = (short, rests false) }
told_text true line ahead rest there rests short = record { fit = (names_fit (names_in_line (drop 1 line)), rests false) }

told_line : (wants : Bool) (line : List ℕ) (ahead : Option (List ℕ)) (rest : Bool → List Statement) (there : IfSome ahead IsShortLine) (rests : (wants : Bool) → AllByRecursion IsFit (rest wants)) → IsShortLine line → IsToldFit wants line ahead rest (kind_of line)
told_line wants line ahead rest there rests short =
    on_test (IsToldFit wants line ahead rest) (is_skipped line) _ _ (λ is. record { fit = (tt, rests wants) })
    (λ is. on_test (IsToldFit wants line ahead rest) (is_text_line line) _ _ (λ text. told_text wants line ahead rest there rests (text_short line short text)) (λ other. told_words wants line ahead rest there rests (tokens_of line)))

all_fit : (wants : Bool) (lines : List (List ℕ)) → AllByRecursion IsShortLine lines → AllByRecursion IsFit (told_from wants lines)
all_fit wants [] short = tt
all_fit wants (line ∷ lines) short = (told_line wants line (text_ahead lines) (λ wants. told_from wants lines) (ahead_short lines short.1) (λ wants. all_fit wants lines short.1) short.0).fit

filter_fit : (statements : List Statement) → AllByRecursion IsFit statements → AllByRecursion IsFit (filter says_something statements)
filter_fit [] each = tt
filter_fit (statement ∷ statements) each = go (says_something statement) (filter_fit statements each.1)
  where
    go : (t : Bool) → AllByRecursion IsFit (filter says_something statements) → AllByRecursion IsFit (cond t (statement ∷ filter says_something statements) (filter says_something statements))
    go true rest = (each.0, rest)
    go false rest = rest

-- what such lines say, but for what says nothing
pub said_fit : (lines : List (List ℕ)) → AllByRecursion IsShortLine lines → AllByRecursion IsFit (filter says_something (statements_of lines))
said_fit lines short = filter_fit (statements_of lines) (all_fit false lines short)
