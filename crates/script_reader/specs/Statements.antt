-- What one line of a script says by itself.
use Rattle.std.specs.Prelude.{ℕ, Bool, true, false, unwrap_or, ◌||◌, ◌&&◌, nat_eq, List, [], ◌∷◌, drop, codes, Option, Some, None, if◌then◌else◌}
use Rattle.std.specs.List.{starts_with, list_all}
use Rattle.std.specs.Option.{option_map, option_map_or}
use Rattle.std.specs.Str.{bytes_eq}
use Rattle.knitout_reader.specs.Tokens.{is_blank, tokens_of}
use Rattle.knitout_reader.specs.Head.{names_in_line}
use Rattle.script_reader.specs.Words.{name_in, number_in, anchor_in_word}
use Rattle.script_reader.specs.declared.line.CommandLine.{CommandLine}
use Rattle.script_reader.specs.declared.line.CommandLine.TheVariants.{Look, Put, Add, Cut, LoopAt, Verdict, LookHead}
use Rattle.script_reader.specs.declared.line.Kind.{Kind}
use Rattle.script_reader.specs.declared.line.Kind.TheVariants as kind
use Rattle.script_reader.specs.declared.line.Mark as marks
use Rattle.script_reader.specs.declared.line.Mark.TheVariants as mark

-- the first line: a word and `1`
abbrev pub are_form_words : List ℕ → List (List ℕ) → Bool
are_form_words name [] = false
are_form_words name (word ∷ []) = false
are_form_words name (word ∷ form ∷ []) = bytes_eq word name && bytes_eq form (codes "1")
are_form_words name (word ∷ form ∷ more ∷ words) = false

-- `live 1`
abbrev pub is_live : List ℕ → Bool
is_live line = are_form_words (codes "live") (tokens_of line)

-- `groups 1`
abbrev pub is_groups : List ℕ → Bool
is_groups line = are_form_words (codes "groups") (tokens_of line)

-- a blank line, or one that begins with `#`
abbrev pub is_skipped : List ℕ → Bool
is_skipped line = starts_with nat_eq line (codes "#") || list_all is_blank line

-- a line whose first byte is `|`; what follows is its text
abbrev pub is_text_line : List ℕ → Bool
is_text_line line = starts_with nat_eq line (codes "|")

-- the command of a line of two words
abbrev pub command_line_of : List ℕ → List ℕ → Option CommandLine
command_line_of word operand =
    if bytes_eq word (codes "look") then (if bytes_eq operand (codes "head") then Some LookHead else option_map Look (name_in operand))
    else (if bytes_eq word (codes "put") then option_map Put (name_in operand)
    else (if bytes_eq word (codes "add") then option_map Add (anchor_in_word operand)
    else (if bytes_eq word (codes "cut") then option_map Cut (name_in operand)
    else (if bytes_eq word (codes "loop") then option_map LoopAt (number_in operand)
    else None))))

abbrev pub kind_of_two : List ℕ → List ℕ → Kind
kind_of_two word operand =
    if bytes_eq word (codes "put") && bytes_eq operand (codes "head") then kind.Header else option_map_or kind.Command (command_line_of word operand) kind.Other

-- a word that stands alone, of scripts of groups
abbrev pub mark_of : List ℕ → Option marks.Mark
mark_of word =
    if bytes_eq word (codes "group") then Some mark.Group
    else (if bytes_eq word (codes "end") then Some mark.End
    else (if bytes_eq word (codes "undo") then Some mark.Undo
    else None))

abbrev pub kind_of_one : List ℕ → Kind
kind_of_one word =
    if bytes_eq word (codes "session") then kind.Session
    else (if bytes_eq word (codes "verdict") then kind.Command Verdict
    else option_map_or kind.Mark (mark_of word) kind.Other)

abbrev pub kind_of_words : List (List ℕ) → Kind
kind_of_words [] = kind.Other
kind_of_words (word ∷ []) = kind_of_one word
kind_of_words (word ∷ operand ∷ []) = kind_of_two word operand
kind_of_words (word ∷ operand ∷ more ∷ words) = kind.Other

abbrev pub kind_of : List ℕ → Kind
kind_of line = if is_skipped line then kind.Skipped else (if is_text_line line then kind.Text else kind_of_words (tokens_of line))

-- what a line says: nothing, a text, that a session begins, a command without its text, that the header gets these names, `group`, `end` or `undo`, or what no script says
pub data Statement : Type 0 where
  Nothing : Statement
  Text : List ℕ → Statement
  Session : Statement
  Command : CommandLine → Statement
  Header : List (List ℕ) → Statement
  Mark : marks.Mark → Statement
  Nonsense : Statement

abbrev pub says_something : Statement → Bool
says_something Nothing = false
says_something (Text text) = true
says_something Session = true
says_something (Command command_line) = true
says_something (Header names) = true
says_something (Mark mark) = true
says_something Nonsense = true

-- the text that stands in front of these lines, where the first of them that says anything is a text line
abbrev pub text_or : Kind → List ℕ → Option (List ℕ) → Option (List ℕ)
text_or kind.Skipped line rest = rest
text_or kind.Text line rest = Some (drop 1 line)
text_or kind.Session line rest = None
text_or (kind.Command command_line) line rest = None
text_or kind.Header line rest = None
text_or (kind.Mark mark) line rest = None
text_or kind.Other line rest = None

abbrev pub text_ahead : List (List ℕ) → Option (List ℕ)
text_ahead [] = None
text_ahead (line ∷ lines) = text_or (kind_of line) line (text_ahead lines)

-- what `put head` says with the text behind it: the names that the text gives to the header. Where no text stands there it says nothing lawful; where the
-- text gives no names, that line is the one that says nothing lawful.
abbrev pub header_said : Option (List ℕ) → Statement
header_said None = Nonsense
header_said (Some text) = Header (unwrap_or (names_in_line text) [])

-- what a text says that `put head` has read: nothing more, or nothing lawful
abbrev pub names_said : Option (List (List ℕ)) → Statement
names_said None = Nonsense
names_said (Some names) = Nothing

-- what these lines say, one by one; where `put head` wants its text, the first text line is what it reads
abbrev pub statements_told : Kind → Bool → List ℕ → Option (List ℕ) → (Bool → List Statement) → List Statement
statements_told kind.Skipped wants line ahead rest = Nothing ∷ rest wants
statements_told kind.Text false line ahead rest = Text (drop 1 line) ∷ rest false
statements_told kind.Text true line ahead rest = names_said (names_in_line (drop 1 line)) ∷ rest false
statements_told kind.Session wants line ahead rest = Session ∷ rest false
statements_told (kind.Command command_line) wants line ahead rest = Command command_line ∷ rest false
statements_told kind.Header wants line ahead rest = header_said ahead ∷ rest true
statements_told (kind.Mark mark) wants line ahead rest = Mark mark ∷ rest false
statements_told kind.Other wants line ahead rest = Nonsense ∷ rest false

abbrev pub told_from : Bool → List (List ℕ) → List Statement
told_from wants [] = []
told_from wants (line ∷ lines) = statements_told (kind_of line) wants line (text_ahead lines) (λ wants. told_from wants lines)

-- what lines say
abbrev pub statements_of : List (List ℕ) → List Statement
statements_of lines = told_from false lines
