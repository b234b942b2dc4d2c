-- Lines in the spelling that most lines have.
use Rattle.std.specs.Prelude.{◌≡◌, ◌≢◌, ℕ, ◌+◌, ◌/◌, ◌%◌, ◌<◌, ◌≤◌, ℤ, pos, true, false, List, [], ◌∷◌, ◌++◌, length, drop, slice_index, All, Some, IfSome}
use Rattle.std.specs.Str.{is_utf8}
use Rattle.knit_base.specs.declared.needle.Dir.{Dir}
use Rattle.knit_base.specs.declared.needle.Needle.{Needle}
use Rattle.knit_base.specs.declared.profile.Profile.{Profile}
use Rattle.knit_base.specs.declared.usual.Usual.{Usual}
use Rattle.knit_base.specs.declared.yarns.CarrierNo.{CarrierNo}
use Rattle.knit_base.specs.Lawful.{IsLawfulRead, IsOnBed}
use Rattle.knit_base.specs.Lines.{lines_of}
use Rattle.knit_base.specs.Names.{carrier_of}
use Rattle.knit_base.specs.Needle.{is_front, is_slider}
use Rattle.knit_base.specs.Spelling.{bed_word, dir_word}
use Rattle.knit_base.specs.Usual.{usual_read}
use Rattle.knitout_reader.specs.declared.byte_names.ByteNames.{ByteNames}
use Rattle.knitout_reader.specs.declared.whole_line.LastNamed.{LastNamed}
use Rattle.knitout_reader.specs.Numbers.{AreDigits, value_of_digits}
use Rattle.knitout_reader.specs.Reading.{ReadsAs}
use Rattle.knitout_reader.specs.Tokens.{is_blank}

-- an ASCII byte that is a token alone: it ends no token and no line, and begins no comment
pub record IsTokenByte (byte : ℕ) : Type 0 where
  pub ascii : byte < 128
  pub plain : is_blank byte ≡ false
  pub comment : byte ≢ 59
  pub feed : byte ≢ 10
  pub back : byte ≢ 13

-- a token of one or two such bytes
pub record IsShortToken (token : List ℕ) : Type 0 where
  pub some : 0 < length token
  pub short : length token ≤ 2
  pub bytes : All IsTokenByte token

-- the byte alone is the name of this carrier
pub record IsByteName (names : List (List ℕ)) (byte number : ℕ) : Type 0 where
  pub token : IsTokenByte byte
  pub named : carrier_of names (byte ∷ []) ≡ Some (record { 0 = number })
  pub declared : number < length names

-- a number below 100 in two digits
abbrev pub pair_text : ℕ → List ℕ
pair_text n = (48 + n / 10) ∷ (48 + n % 10) ∷ []

-- the byte that was kept is the name of the carrier that was kept, if one was
abbrev pub KnowsLastCarrier : List (List ℕ) → LastNamed → Type 0
KnowsLastCarrier names last = IfSome last.carrier (λ c. IsByteName names last.byte c.0)

-- this number in two digits is the name of this carrier
pub record IsPairName (names : List (List ℕ)) (pair number : ℕ) : Type 0 where
  pub named : carrier_of names (pair_text pair) ≡ Some (record { 0 = number })
  pub declared : number < length names

-- the list has the carriers whose names are one byte, each at the place of that byte; 255 stands for none
abbrev pub AreByteNumbers : List (List ℕ) → List ℕ → Type 0
AreByteNumbers names numbers = (byte : ℕ) → slice_index numbers byte ≢ 255 → byte < 256 → IsByteName names byte (slice_index numbers byte)

-- the list has carriers whose names are two digits, each at the place of that number; 255 stands for none
abbrev pub ArePairNumbers : List (List ℕ) → List ℕ → Type 0
ArePairNumbers names pairs = (pair : ℕ) → slice_index pairs pair ≢ 255 → pair < 100 → IsPairName names pair (slice_index pairs pair)

-- the table has carriers of these names
pub record AreByteNames (names : List (List ℕ)) (table : ByteNames) : Type 0 where
  pub few : length names ≤ 64
  pub each : AreByteNumbers names table.numbers
  pub pairs : ArePairNumbers names table.pairs

-- the text begins with the name of a carrier, which is a token of one or two bytes, and a line feed
pub record BeginsWithUsualName (names : List (List ℕ)) (text : List ℕ) (c : CarrierNo) (rest : List ℕ) : Type 0 where
  pub name : List ℕ
  pub some : 0 < length name
  pub short : length name ≤ 2
  pub bytes : All IsTokenByte name
  pub named : carrier_of names name ≡ Some c
  pub text_is : text ≡ name ++ 10 ∷ rest

-- the text begins with a number of one to three digits, and this byte
pub record BeginsWithUsualNumber (text : List ℕ) (at : ℤ) (end : ℕ) (rest : List ℕ) : Type 0 where
  pub digits : List ℕ
  pub are : AreDigits digits
  pub few : length digits ≤ 3
  pub at_is : at ≡ pos (value_of_digits digits)
  pub text_is : text ≡ digits ++ end ∷ rest

-- the text begins with a needle on a hook of the bed that is spelt with such a number, and this byte
pub record BeginsWithUsualNeedle (profile : Profile) (text : List ℕ) (n : Needle) (end : ℕ) (rest : List ℕ) : Type 0 where
  pub behind : List ℕ
  pub number : BeginsWithUsualNumber behind n.at end rest
  pub on : IsOnBed profile n
  pub hook : is_slider n.bed ≡ false
  pub text_is : text ≡ bed_word n.bed ++ behind

-- the text begins with a direction, such a needle, such a name and a line feed, with one space before each
pub record BeginsWithUsualOperands (profile : Profile) (names : List (List ℕ)) (text : List ℕ) (dir : Dir) (n : Needle) (c : CarrierNo) (rest : List ℕ) : Type 0 where
  pub behind : List ℕ
  pub behind2 : List ℕ
  pub text_is : text ≡ 32 ∷ (dir_word dir ++ 32 ∷ behind)
  pub needle : BeginsWithUsualNeedle profile behind n 32 behind2
  pub name : BeginsWithUsualName names behind2 c rest

-- the text begins with two such needles on different sides, one space before each, and a line feed
pub record BeginsWithUsualNeedles (profile : Profile) (text : List ℕ) (n n2 : Needle) (rest : List ℕ) : Type 0 where
  pub behind : List ℕ
  pub behind2 : List ℕ
  pub text_is : text ≡ 32 ∷ behind
  pub needle : BeginsWithUsualNeedle profile behind n 32 behind2
  pub needle2 : BeginsWithUsualNeedle profile behind2 n2 10 rest
  pub sides : is_front n.bed ≢ is_front n2.bed

-- a line of at most so many bytes begins the text and takes so many with its line feed, and this is its reading
pub record BeginsWithLine (most : ℕ) (profile : Profile) (names : List (List ℕ)) (text : List ℕ) (usual : Usual) (len : ℕ) : Type 0 where
  pub line : List ℕ
  pub some : 0 < len
  pub within : len ≤ length text
  pub lines : lines_of text ≡ line ∷ lines_of (drop len text)
  pub utf8 : is_utf8 line ≡ true
  pub short : length line ≤ most
  pub read : ReadsAs profile names line (usual_read usual)
  pub lawful : IsLawfulRead profile (length names) (usual_read usual)
  pub few : length names ≤ 64

-- a short line begins the text so
abbrev pub BeginsWithUsual : Profile → List (List ℕ) → List ℕ → Usual → ℕ → Type 0
BeginsWithUsual profile names text usual len = BeginsWithLine 32 profile names text usual len
