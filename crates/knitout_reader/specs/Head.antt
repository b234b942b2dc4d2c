-- The head of a file: its magic line and its headers.
use Rattle.std.specs.Prelude.{◌≡◌, ℕ, ◌+◌, ◌<◌, Bool, true, false, ◌||◌, ◌&&◌, nat_eq, nat_lt, List, [], ◌∷◌, length, take, drop, Option, Some, None, Result, Ok, Err, codes, if◌then◌else◌}
use Rattle.std.specs.List.{starts_with, prefix_len, list_any, list_all}
use Rattle.std.specs.Str.{bytes_eq, is_utf8}
use Rattle.knit_base.specs.Lines.{HasNoLineEnd}
use Rattle.knitout_reader.specs.Tokens.{is_blank, tokens_of}
use Rattle.knitout_reader.specs.declared.head.Head.{Head}
use Rattle.knitout_reader.specs.declared.head.HeadFault.{HeadFault}
use Rattle.knitout_reader.specs.declared.head.HeadFault.TheVariants.{BadMagic, NoCarriers, TwoCarriers, CarrierNameTwice, ManyCarriers, NoMemory}

-- what a file begins with
abbrev pub magic : List ℕ
magic = codes ";!knitout-2"

-- what the header begins with that names the carriers
abbrev pub carriers_word : List ℕ
carriers_word = codes ";;Carriers:"

-- the magic word, with blanks behind it
abbrev pub is_magic : List ℕ → Bool
is_magic line = starts_with nat_eq line magic && list_all is_blank (drop (length magic) line)

-- a line that goes on with a head: a `;` is its first byte, or it is blank
abbrev pub is_head_line : List ℕ → Bool
is_head_line line = starts_with nat_eq line (codes ";") || list_all is_blank line

-- how many lines the head has: the first line, and the lines behind it up to the first that is no head line
abbrev pub head_len : List (List ℕ) → ℕ
head_len [] = 0
head_len (first ∷ lines) = 1 + prefix_len is_head_line lines

-- the lines of the head
abbrev pub head_of : List (List ℕ) → List (List ℕ)
head_of lines = take (head_len lines) lines

-- a header that names the carriers: the number of its line, from 1, and the names
pub record CarriersHeader : Type 0 where
  pub line : ℕ
  pub names : List (List ℕ)

-- the line is a header that names the carriers
abbrev pub is_carriers_line : List ℕ → Bool
is_carriers_line line = starts_with nat_eq line carriers_word

-- The runs without blanks behind the colon. The whole line is a comment, so a `;` there is a byte like any other.
abbrev pub names_of : List ℕ → List (List ℕ)
names_of line = tokens_of (drop (length carriers_word) line)

-- the headers that name the carriers, where the lines begin with this number
abbrev pub carriers_headers : ℕ → List (List ℕ) → List CarriersHeader
carriers_headers number [] = []
carriers_headers number (line ∷ lines) =
    if is_carriers_line line then record { line = number; names = names_of line } ∷ carriers_headers (number + 1) lines else carriers_headers (number + 1) lines

-- some name stands twice
abbrev pub has_name_twice : List (List ℕ) → Bool
has_name_twice [] = false
has_name_twice (name ∷ names) = list_any (bytes_eq name) names || has_name_twice names

-- the names of one header, where they are different and at most 64
abbrev pub names_declared : CarriersHeader → Result (List (List ℕ)) HeadFault
names_declared header =
    if has_name_twice header.names then Err (CarrierNameTwice header.line) else (if nat_lt 64 (length header.names) then Err (ManyCarriers header.line) else Ok header.names)

-- the names, if they are given
abbrev pub names_or_none : Result (List (List ℕ)) HeadFault → Option (List (List ℕ))
names_or_none (Ok names) = Some names
names_or_none (Err fault) = None

-- the names that a line gives, where it is a header that names the carriers, and they are different and at most 64
abbrev pub names_in_line : List ℕ → Option (List (List ℕ))
names_in_line line = if is_carriers_line line then names_or_none (names_declared (record { line = 1; names = names_of line })) else None

-- the names, where one header gives them
abbrev pub one_declared : List CarriersHeader → Result (List (List ℕ)) HeadFault
one_declared [] = Err NoCarriers
one_declared (header ∷ []) = names_declared header
one_declared (header ∷ second ∷ more) = Err (TwoCarriers second.line)

-- The names of the carriers that a file's head declares, or the first refusal of the head.
abbrev pub declared_names : List (List ℕ) → Result (List (List ℕ)) HeadFault
declared_names [] = Err BadMagic
declared_names (first ∷ lines) = if is_magic first then one_declared (carriers_headers 1 (head_of (first ∷ lines))) else Err BadMagic

-- the head of the file with these lines
pub record IsHead (lines : List (List ℕ)) (head : Head) : Type 0 where
  pub len : head.lines ≡ head_len lines
  pub names : declared_names lines ≡ Ok head.declared

-- The refusal that this answer is. Want of memory may come with any.
abbrev pub IsHeadRefusal : Result (List (List ℕ)) HeadFault → HeadFault → Type 0
IsHeadRefusal answer BadMagic = answer ≡ Err BadMagic
IsHeadRefusal answer NoCarriers = answer ≡ Err NoCarriers
IsHeadRefusal answer (TwoCarriers line) = answer ≡ Err (TwoCarriers line)
IsHeadRefusal answer (CarrierNameTwice line) = answer ≡ Err (CarrierNameTwice line)
IsHeadRefusal answer (ManyCarriers line) = answer ≡ Err (ManyCarriers line)
IsHeadRefusal answer NoMemory = Unit {0}

-- the head of the file with these lines is refused
abbrev pub IsHeadFault : List (List ℕ) → HeadFault → Type 0
IsHeadFault lines fault = IsHeadRefusal (declared_names lines) fault

-- what stands behind the colon of a header, as a part of a line
pub record IsNamesText (text : List ℕ) : Type 0 where
  pub utf8 : is_utf8 text ≡ true
  pub one : HasNoLineEnd text
  pub short : length text < 65524
