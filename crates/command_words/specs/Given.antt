-- What clap finds, for private clauses.
use Rattle.std.specs.Prelude.{◌≡◌, ◌≤◌, Bool, true, false, not, ◌&&◌, ◌||◌}
use Rattle.std.specs.Prelude.{List, [], ◌∷◌, length, Option, Some, None, is_some, option_map, slice_get, codes}
use Rattle.std.specs.Str.{bytes_eq}
use Rattle.std.specs.List.{list_any}
use Rattle.std.specs.Borrow.{Bor}
use Rattle.command_words.specs.Grammar.{Item, Name, Low, High, Rack, Hold, Block, Float, Loops, Json, Text}
use Rattle.command_words.specs.Grammar.{are_distinct, begins_with_hyphen, is_flag, option_names_in, positional_words, value_in}
use Rattle.command_words.specs.Numbers.{number_or_none}
use Rattle.command_words.specs.Request.{CommandLineParts}
use Rattle.command_words.specs.declared.given.Given.{Given}

-- no option stands twice, and there are at most three positional words, none of which begins with `-`
pub record ItemsFit (items : List Item) : Type 0 where
  pub distinct : are_distinct (option_names_in items) ≡ true
  pub few : length (positional_words items) ≤ 3
  pub plain : list_any begins_with_hyphen (positional_words items) ≡ false

-- the items fit, and the value of each option is a number
pub record AreLawfulItems (items : List Item) : Type 0 where
  pub fit : ItemsFit items
  pub numbers : (n : Name) → is_flag n ≡ false → number_or_none (value_in n items) ≡ true

-- the text, where there is one, doesn't begin with `-`
abbrev pub plain_or_none : Option Text → Bool
plain_or_none None = true
plain_or_none (Some text) = not (begins_with_hyphen text)

-- the text behind a reference
abbrev pub now_of : Option (Bor Text) → Option Text
now_of = option_map (λ s. s.now)

-- clap's value of a flag that stands is `true`
abbrev pub is_on : Option Text → Bool
is_on None = false
is_on (Some text) = bytes_eq text (codes "true")

-- what is found is what the items say
pub record IsGivenByItems (items : List Item) (given : Given) : Type 0 where
  pub low : now_of given.low ≡ value_in Low items
  pub high : now_of given.high ≡ value_in High items
  pub rack : now_of given.rack ≡ value_in Rack items
  pub hold : now_of given.hold ≡ value_in Hold items
  pub block : now_of given.block ≡ value_in Block items
  pub float : now_of given.float ≡ value_in Float items
  pub loops : given.loops ≡ is_some (value_in Loops items)
  pub json : given.json ≡ is_some (value_in Json items)
  pub first : now_of given.first ≡ slice_get (positional_words items) 0
  pub second : now_of given.second ≡ slice_get (positional_words items) 1
  pub third : now_of given.third ≡ slice_get (positional_words items) 2

-- `AreLawfulItems` as a test of what is found
abbrev pub are_lawful : Given → Bool
are_lawful g = number_or_none (now_of g.low) && (number_or_none (now_of g.high) && (number_or_none (now_of g.rack)
    && (number_or_none (now_of g.hold) && (number_or_none (now_of g.block) && (number_or_none (now_of g.float)
    && (plain_or_none (now_of g.first) && (plain_or_none (now_of g.second) && plain_or_none (now_of g.third))))))))

-- the positional words; there is no later one without the first
abbrev pub positional_list : Option Text → Option Text → Option Text → List Text
positional_list None second third = []
positional_list (Some a) None None = a ∷ []
positional_list (Some a) None (Some c) = a ∷ c ∷ []
positional_list (Some a) (Some b) None = a ∷ b ∷ []
positional_list (Some a) (Some b) (Some c) = a ∷ b ∷ c ∷ []

-- the parts that are found
abbrev pub parts_given : Given → CommandLineParts
parts_given g = record {
  low = now_of g.low;
  high = now_of g.high;
  rack = now_of g.rack;
  hold = now_of g.hold;
  block = now_of g.block;
  float = now_of g.float;
  loops = g.loops;
  json = g.json;
  words = positional_list (now_of g.first) (now_of g.second) (now_of g.third);
}

-- a limit of the machine is among the parts
abbrev pub has_limits : CommandLineParts → Bool
has_limits parts = is_some parts.low || (is_some parts.high || (is_some parts.rack || (is_some parts.hold || is_some parts.float)))
