-- What clap's walk takes, for private clauses: the grammar, but that a lone `-` passes as a value.
use Rattle.std.specs.Prelude.{Bool, not, ◌&&◌, if◌then◌else◌, List, [], ◌∷◌, map, Option, Some, None, is_some}
use Rattle.std.specs.Str.{bytes_eq}
use Rattle.clap.specs.Lexer.{long_of, short_of}
use Rattle.command_words.specs.Grammar.{Item, Name, Place, Setting, Text, is_end_of_options, option_text, put, word_items}

-- a word that is no flag
abbrev pub is_value : Text → Bool
is_value word = not (bytes_eq word (45 ∷ 45 ∷ [])) && (not (is_some (long_of word)) && not (is_some (short_of word)))

-- the words as clap reads them, from left to right
abbrev pub taken_of : Option Name → List Text → Option (List Item)
taken_of None [] = Some []
taken_of (Some n) [] = None
taken_of None (word ∷ words) = if is_end_of_options (option_text word) then Some (map Place words)
    else word_items word (option_text word) (λ waiting. taken_of waiting words)
taken_of (Some n) (word ∷ words) = if is_value word then put (Setting n word) (taken_of None words) else None
