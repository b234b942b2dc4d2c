-- How long the texts are that the lines of a script say.
use Rattle.std.proofs.Common.{◌≡◌, ℕ, ◌<◌, Bool, true, false, Option, None, Some, List, [], ◌∷◌, All, drop, length, arith, length-drop}
use Rattle.std.proofs.lemmas.List.Elements.{All-nil, All-cons, All-head, All-tail}
use Rattle.knitout_reader.specs.Head.{names_in_line}
use Rattle.script_reader.specs.declared.line.Kind.{Kind}
use Rattle.script_reader.specs.declared.line.Kind.TheVariants as kind
use Rattle.script_reader.specs.Statements.{Statement, Nothing, Text, Session, Command, Header, Mark, Nonsense, header_said, kind_of, names_said, statements_of, text_ahead, statements_told, told_from}

-- how long the text is that a line says
abbrev pub text_len : Statement → ℕ
text_len Nothing = 0
text_len (Text text) = length text
text_len Session = 0
text_len (Command command_line) = 0
text_len (Header names) = 0
text_len (Mark mark) = 0
text_len Nonsense = 0

module _ (limit : ℕ) where
  abbrev IsShort : Statement → Type 0
  IsShort statement = text_len statement < limit

  abbrev IsShortLine : List ℕ → Type 0
  IsShortLine line = length line < limit

  header_short : (ahead : Option (List ℕ)) → 0 < limit → IsShort (header_said ahead)
  header_short None some = some
  header_short (Some text) some = some

  names_short : (names : Option (List (List ℕ))) → 0 < limit → IsShort (names_said names)
  names_short None some = some
  names_short (Some names) some = some

  -- what a short line says is short
  told_short : (is : Kind) (wants : Bool) (line : List ℕ) (ahead : Option (List ℕ)) (rest : Bool → List Statement) → 0 < limit → IsShortLine line → ((wants : Bool) → All IsShort (rest wants))
      → All IsShort (statements_told is wants line ahead rest)
  told_short kind.Skipped wants line ahead rest some short rests = All-cons IsShort Nothing (rest wants) some (rests wants)
  told_short kind.Text false line ahead rest some short rests = All-cons IsShort (Text (drop 1 line)) (rest false) (omega (arith, length-drop 1 line)) (rests false)
  told_short kind.Text true line ahead rest some short rests =
      All-cons IsShort (names_said (names_in_line (drop 1 line))) (rest false) (names_short (names_in_line (drop 1 line)) some) (rests false)
  told_short kind.Session wants line ahead rest some short rests = All-cons IsShort Session (rest false) some (rests false)
  told_short (kind.Command command_line) wants line ahead rest some short rests = All-cons IsShort (Command command_line) (rest false) some (rests false)
  told_short kind.Header wants line ahead rest some short rests = All-cons IsShort (header_said ahead) (rest true) (header_short ahead some) (rests true)
  told_short (kind.Mark mark) wants line ahead rest some short rests = All-cons IsShort (Mark mark) (rest false) some (rests false)
  told_short kind.Other wants line ahead rest some short rests = All-cons IsShort Nonsense (rest false) some (rests false)

  all_short : (wants : Bool) (lines : List (List ℕ)) → 0 < limit → All IsShortLine lines → All IsShort (told_from wants lines)
  all_short wants [] some good = All-nil IsShort
  all_short wants (line ∷ lines) some good =
      told_short (kind_of line) wants line (text_ahead lines) (λ wants. told_from wants lines) some (All-head IsShortLine line lines good)
      (λ wants. all_short wants lines some (All-tail IsShortLine line lines good))

  -- the texts of short lines are short
  pub short_statements : (lines : List (List ℕ)) → 0 < limit → All IsShortLine lines → All IsShort (statements_of lines)
  short_statements lines some good = all_short false lines some good
