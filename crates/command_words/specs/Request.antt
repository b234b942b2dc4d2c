-- What the words of a command line ask for.
use Rattle.std.specs.Prelude.{⊤, ℕ, ◌≤◌, Bool, true, false, not, ◌&&◌, ◌||◌, if◌then◌else◌}
use Rattle.std.specs.Prelude.{List, [], ◌∷◌, Option, Some, None, is_some, option_map, option_and_then, codes}
use Rattle.std.specs.List.{list_all, list_any}
use Rattle.std.specs.Str.{bytes_eq}
use Rattle.machine_profile.specs.declared.Options.{Options}
use Rattle.command_words.specs.declared.command.Command.{Command}
use Rattle.command_words.specs.declared.command.Command.TheVariants.{Check, Text, Passes, Live, Save, Groups, Serve, Replay, Tally, Make}
use Rattle.command_words.specs.declared.command.Request.{Request}
use Rattle.command_words.specs.Grammar.{Item, Name, Low, High, Rack, Hold, Block, Float, Loops, Json, all_names}
use Rattle.command_words.specs.Grammar.{are_distinct, begins_with_hyphen, items_of, option_names_in, positional_words, value_in}
use Rattle.command_words.specs.Numbers.{count_in_text, number_in_text, number_or_none}

-- what stands on a command line: the text of each option, the flags, and the positional words in order
pub record CommandLineParts : Type 0 where
  pub low : Option (List ℕ)
  pub high : Option (List ℕ)
  pub rack : Option (List ℕ)
  pub hold : Option (List ℕ)
  pub block : Option (List ℕ)
  pub float : Option (List ℕ)
  pub loops : Bool
  pub json : Bool
  pub words : List (List ℕ)

-- the parts that the items are
abbrev pub parts_of : List Item → CommandLineParts
parts_of items = record {
  low = value_in Low items;
  high = value_in High items;
  rack = value_in Rack items;
  hold = value_in Hold items;
  block = value_in Block items;
  float = value_in Float items;
  loops = is_some (value_in Loops items);
  json = is_some (value_in Json items);
  words = positional_words items;
}

-- the option or flag is among the parts
abbrev pub is_among_parts : CommandLineParts → Name → Bool
is_among_parts parts Low = is_some parts.low
is_among_parts parts High = is_some parts.high
is_among_parts parts Rack = is_some parts.rack
is_among_parts parts Hold = is_some parts.hold
is_among_parts parts Block = is_some parts.block
is_among_parts parts Float = is_some parts.float
is_among_parts parts Loops = parts.loops
is_among_parts parts Json = parts.json

-- the five limits of the machine
abbrev pub is_limit : Name → Bool
is_limit Low = true
is_limit High = true
is_limit Rack = true
is_limit Hold = true
is_limit Float = true
is_limit _ = false

-- the size of a block
abbrev pub is_block : Name → Bool
is_block Block = true
is_block _ = false

-- the flag for JSON
abbrev pub is_json : Name → Bool
is_json Json = true
is_json _ = false

-- which options and flags go with which command
abbrev pub is_allowed : Command → Name → Bool
is_allowed (Check loops json) name = true
is_allowed Text name = is_limit name
is_allowed Passes name = is_limit name || is_block name
is_allowed Live name = is_limit name || is_block name
is_allowed Save name = is_limit name || is_block name
is_allowed Groups name = is_limit name || is_block name
is_allowed (Serve json) name = is_limit name || (is_block name || is_json name)
is_allowed Replay name = false
is_allowed (Tally from to) name = false
is_allowed (Make rows start) name = is_block name

-- each option and flag that stands goes with the command
abbrev pub goes_with : Command → CommandLineParts → Bool
goes_with command parts = list_all (λ name. is_allowed command name || not (is_among_parts parts name)) all_names

-- the command of one word, with the flags that stand
abbrev pub command_of_word : Bool → Bool → List ℕ → Option Command
command_of_word loops json word =
    if bytes_eq word (codes "check") then Some (Check loops json) else
    if bytes_eq word (codes "text") then Some Text else
    if bytes_eq word (codes "passes") then Some Passes else
    if bytes_eq word (codes "live") then Some Live else
    if bytes_eq word (codes "save") then Some Save else
    if bytes_eq word (codes "groups") then Some Groups else
    if bytes_eq word (codes "serve") then Some (Serve json) else
    if bytes_eq word (codes "replay") then Some Replay else None

-- `make` with 1 to 20,000 rows and a start from 0 to 2,147,483,647
abbrev pub make_of : List ℕ → List ℕ → Option Command
make_of rows start = option_and_then (λ r. option_map (λ s. Make r s) (count_in_text 0 2147483647 start)) (count_in_text 1 20000 rows)

-- `tally` with two places, each of which is at most 4,294,967,295
abbrev pub tally_of : List ℕ → List ℕ → Option Command
tally_of from to = option_and_then (λ f. option_map (λ t. Tally f t) (count_in_text 0 4294967295 to)) (count_in_text 0 4294967295 from)

-- the command of three words, the first of which is followed by two numbers
abbrev pub command_of_numbers : List ℕ → List ℕ → List ℕ → Option Command
command_of_numbers word first second =
    if bytes_eq word (codes "make") then make_of first second else
    if bytes_eq word (codes "tally") then tally_of first second else None

-- 1 to 20,000 rows, and a start from 0 to 2,147,483,647
pub record IsMake (rows first : ℕ) : Type 0 where
  pub some : 1 ≤ rows
  pub few : rows ≤ 20000
  pub start : first ≤ 2147483647

-- the numbers of the command lie within their bounds
abbrev pub IsLawfulCommand : Command → Type 0
IsLawfulCommand (Make rows start) = IsMake rows start
IsLawfulCommand (Check loops json) = ⊤
IsLawfulCommand Text = ⊤
IsLawfulCommand Passes = ⊤
IsLawfulCommand Live = ⊤
IsLawfulCommand Save = ⊤
IsLawfulCommand Groups = ⊤
IsLawfulCommand (Serve json) = ⊤
IsLawfulCommand Replay = ⊤
IsLawfulCommand (Tally from to) = ⊤

-- the command that the positional words name
abbrev pub command_of_words : Bool → Bool → List (List ℕ) → Option Command
command_of_words loops json [] = None
command_of_words loops json (word ∷ []) = command_of_word loops json word
command_of_words loops json (word ∷ first ∷ []) = None
command_of_words loops json (word ∷ first ∷ second ∷ []) = command_of_numbers word first second
command_of_words loops json (word ∷ first ∷ second ∷ third ∷ more) = None

-- the command that the parts name
abbrev pub command_of : CommandLineParts → Option Command
command_of parts = command_of_words parts.loops parts.json parts.words

-- the values that the options give
abbrev pub options_of : CommandLineParts → Options
options_of parts = record {
  low = option_and_then number_in_text parts.low;
  high = option_and_then number_in_text parts.high;
  rack = option_and_then number_in_text parts.rack;
  hold = option_and_then number_in_text parts.hold;
  block = option_and_then number_in_text parts.block;
  float = option_and_then number_in_text parts.float;
}

-- the value of each option is a number
abbrev pub has_numbers : CommandLineParts → Bool
has_numbers parts = list_all number_or_none (parts.low ∷ parts.high ∷ parts.rack ∷ parts.hold ∷ parts.block ∷ parts.float ∷ [])

-- no option and no flag stands twice, no positional word begins with `-`, and the value of each option is a number
abbrev pub is_lawful : List Item → Bool
is_lawful items =
    are_distinct (option_names_in items)
    && (not (list_any begins_with_hyphen (positional_words items)) && has_numbers (parts_of items))

-- the command with the options, where each of them goes with it
abbrev pub with_options : CommandLineParts → Command → Option Request
with_options parts command =
    if goes_with command parts then Some (record { command = command; options = options_of parts }) else None

-- the command that the parts name, with their options
abbrev pub request_from_parts : CommandLineParts → Option Request
request_from_parts parts = option_and_then (with_options parts) (command_of parts)

-- what the items ask for, where they are lawful
abbrev pub request_from : List Item → Option Request
request_from items = if is_lawful items then request_from_parts (parts_of items) else None

-- what the words ask for, where they are in the grammar
abbrev pub words_request : List (List ℕ) → Option Request
words_request words = option_and_then request_from (items_of None words)
