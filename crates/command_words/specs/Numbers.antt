-- The numbers of a command line.
use Rattle.std.specs.Prelude.{ℕ, ℤ, pos, negsuc, Bool, true, ◌&&◌, nat_le, if◌then◌else◌, length, Option, Some, None, option_and_then, unwrap_or}
use Rattle.std.specs.Char.{is_ascii_digit}
use Rattle.std.specs.List.{list_all}
use Rattle.std.specs.Str.Parse.{signed_digits_value}
use Rattle.command_words.specs.Grammar.{Text, after_hyphen}

-- the text without a first `-`
abbrev pub digits_of : Text → Text
digits_of text = unwrap_or (after_hyphen text) text

-- an optional `-` and 1 to 10 digits
abbrev pub is_number : Text → Bool
is_number text =
    nat_le 1 (length (digits_of text)) && (nat_le (length (digits_of text)) 10 && list_all is_ascii_digit (digits_of text))

-- the number that a text writes
abbrev pub number_in_text : Text → Option ℤ
number_in_text text = if is_number text then Some (signed_digits_value 10 text) else None

-- a count that lies within its bounds
abbrev pub count_within : ℕ → ℕ → ℤ → Option ℕ
count_within least greatest (pos n) = if nat_le least n && nat_le n greatest then Some n else None
count_within least greatest (negsuc n) = None

-- the count that a text writes, where it lies within its bounds
abbrev pub count_in_text : ℕ → ℕ → Text → Option ℕ
count_in_text least greatest text = option_and_then (count_within least greatest) (number_in_text text)

-- the text, where there is one, is a number
abbrev pub number_or_none : Option Text → Bool
number_or_none None = true
number_or_none (Some text) = is_number text
