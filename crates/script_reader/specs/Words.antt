-- Numbers and names of blocks, as the words of a script spell them.
use Rattle.std.specs.Prelude.{ℕ, Bool, ◌&&◌, ◌==◌, nat_le, nat_lt, List, [], ◌∷◌, length, codes, Option, Some, None, option_and_then, if◌then◌else◌}
use Rattle.std.specs.List.{list_all}
use Rattle.std.specs.Option.{option_map}
use Rattle.std.specs.Str.{bytes_eq}
use Rattle.edit_journal.specs.declared.edit.BlockName.{BlockName}
use Rattle.edit_journal.specs.declared.edit.BlockName.TheVariants.{Id, Own}
use Rattle.edit_journal.specs.Entries.{head_id}
use Rattle.knitout_reader.specs.Numbers.{value_of_digits}
use Rattle.script_reader.specs.declared.command.Place.{Place}
use Rattle.script_reader.specs.declared.command.Place.TheVariants.{Start, After}

-- 0 to 9
abbrev pub is_digit : ℕ → Bool
is_digit byte = nat_le 48 byte && nat_le byte 57

-- 1 to 10 digits, of a value that fits 32 bits
abbrev pub is_id_number : List ℕ → Bool
is_id_number word = nat_lt 0 (length word) && nat_le (length word) 10 && list_all is_digit word && nat_lt (value_of_digits word) 4294967296

-- the number that a word spells
abbrev pub number_in : List ℕ → Option ℕ
number_in word = if is_id_number word then Some (value_of_digits word) else None

-- the id that a word spells: a number that isn't the header's
abbrev pub id_in : List ℕ → Option ℕ
id_in word = option_and_then (λ id. if id == head_id then None else Some id) (number_in word)

-- the block that a word names: an id, or `@` and the number of an add command
abbrev pub name_in : List ℕ → Option BlockName
name_in [] = None
name_in (byte ∷ bytes) = if byte == 64 then option_map Own (number_in bytes) else option_map Id (id_in (byte ∷ bytes))

-- the place that a word names: `start`, or behind a block
abbrev pub anchor_in_word : List ℕ → Option Place
anchor_in_word word = if bytes_eq word (codes "start") then Some Start else option_map After (name_in word)
