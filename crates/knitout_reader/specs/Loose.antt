-- Lines that say what most lines say, in any spelling.
use Rattle.std.specs.Prelude.{◌≡◌, ◌≢◌, ◌⊎◌, ℕ, ◌<◌, ◌≤◌, ℤ, pos, ◌-ℤ◌, ◌≤ℤ◌, true, false, min, List, [], ◌∷◌, ◌++◌, length, All, None, Some}
use Rattle.knit_base.specs.declared.needle.Bed.{Bed}
use Rattle.knit_base.specs.declared.needle.Dir.{Dir}
use Rattle.knit_base.specs.declared.needle.Needle.{Needle}
use Rattle.knit_base.specs.declared.profile.Profile.{Profile}
use Rattle.knit_base.specs.declared.usual.Usual.{Usual}
use Rattle.knit_base.specs.declared.yarns.CarrierNo.{CarrierNo}
use Rattle.knit_base.specs.Lawful.{IsOnBed}
use Rattle.knit_base.specs.Names.{carrier_of}
use Rattle.knit_base.specs.Needle.{is_slider}
use Rattle.knit_base.specs.Spelling.{dir_word}
use Rattle.knit_base.specs.Usual.{usual_read}
use Rattle.knitout_reader.specs.Numbers.{AreDigits, IsNear, IsNeedle, IsSigned, value_of_digits}
use Rattle.knitout_reader.specs.Reading.{TokensReadAs, not_opposite}
use Rattle.knitout_reader.specs.Tokens.{before_comment, is_blank, tokens_of}
use Rattle.knitout_reader.specs.Usual.{IsTokenByte}

-- an ASCII byte that ends no line
pub record StaysInLine (byte : ℕ) : Type 0 where
  pub ascii : byte < 128
  pub feed : byte ≢ 10
  pub back : byte ≢ 13

-- the first line of the text is ASCII, before its comment it has these tokens, and this stands behind its line feed
pub record HasFirstLine (text : List ℕ) (tokens : List (List ℕ)) (rest : List ℕ) : Type 0 where
  pub line : List ℕ
  pub bytes : All StaysInLine line
  pub tokens_are : tokens_of (before_comment line) ≡ tokens
  pub text_is : text ≡ line ++ 10 ∷ rest

-- no token goes on with this byte: a blank, the `;` of a comment or a line feed
abbrev pub EndsToken : ℕ → Type 0
EndsToken byte = (is_blank byte ≡ true) ⊎ (byte ≡ 59) ⊎ (byte ≡ 10)

-- the text begins with such a byte
pub record BeginsAtEnd (text : List ℕ) : Type 0 where
  pub byte : ℕ
  pub others : List ℕ
  pub text_is : text ≡ byte ∷ others
  pub ends : EndsToken byte

-- these tokens stand before what is behind, a blank before the first, and a blank behind the last
pub record LeadsTo (text : List ℕ) (front : List (List ℕ)) (behind : List ℕ) : Type 0 where
  pub ends : BeginsAtEnd text
  pub line : (tokens : List (List ℕ)) (rest : List ℕ) → HasFirstLine behind tokens rest → HasFirstLine text (front ++ tokens) rest

-- the text is the end of a line, without tokens
pub record EndsLine (text rest : List ℕ) : Type 0 where
  pub ends : BeginsAtEnd text
  pub line : HasFirstLine text [] rest

-- the rest of the line has these bytes, in a comment
pub record GoesOnTo (text rest : List ℕ) : Type 0 where
  pub bytes : List ℕ
  pub stay : All StaysInLine bytes
  pub text_is : text ≡ bytes ++ 10 ∷ rest

-- these bytes of a token stand in front
pub record BeginsWithBytes (text token behind : List ℕ) : Type 0 where
  pub some : 0 < length token
  pub bytes : All IsTokenByte token
  pub text_is : text ≡ token ++ behind

-- digits stand in front, and this is their number, or `far` where it is greater
pub record BeginsWithDigits (far : ℕ) (text : List ℕ) (n : ℕ) (behind : List ℕ) : Type 0 where
  pub digits : List ℕ
  pub are : AreDigits digits
  pub value : n ≡ min (value_of_digits digits) far
  pub text_is : text ≡ digits ++ behind

-- a number stands in front, with a sign or without one, and this is it, or `far` on its side where it is farther
pub record BeginsWithSigned (far : ℕ) (text : List ℕ) (n : ℤ) (behind : List ℕ) : Type 0 where
  pub number : List ℕ
  pub z : ℤ
  pub signed : IsSigned number z
  pub near : IsNear far n z
  pub within : ((pos 0 -ℤ pos far) ≤ℤ n) × (n ≤ℤ pos far)
  pub front : BeginsWithBytes text number behind

-- a needle stands in front, and this is its number or one as far on its side
pub record BeginsWithNeedleToken (far : ℕ) (text : List ℕ) (bed : Bed) (n : ℤ) (behind : List ℕ) : Type 0 where
  pub token : List ℕ
  pub z : ℤ
  pub front : BeginsWithBytes text token behind
  pub named : IsNeedle token bed z
  pub near : IsNear far n z

-- a needle of the bed stands in front
pub record BeginsWithBytesOf (profile : Profile) (text : List ℕ) (n : Needle) (behind : List ℕ) : Type 0 where
  pub token : List ℕ
  pub front : BeginsWithBytes text token behind
  pub named : IsNeedle token n.bed n.at
  pub on : IsOnBed profile n

-- the name of a carrier stands in front
pub record BeginsWithNameOf (names : List (List ℕ)) (text : List ℕ) (c : CarrierNo) (behind : List ℕ) : Type 0 where
  pub token : List ℕ
  pub front : BeginsWithBytes text token behind
  pub named : carrier_of names token ≡ Some c

-- behind a word the first line has a direction, a needle on a hook of the bed and a carrier
pub record HasOperands (profile : Profile) (names : List (List ℕ)) (text : List ℕ) (dir : Dir) (n : Needle) (c : CarrierNo) (rest : List ℕ) : Type 0 where
  pub needle : List ℕ
  pub name : List ℕ
  pub ends : BeginsAtEnd text
  pub line : HasFirstLine text (dir_word dir ∷ needle ∷ name ∷ []) rest
  pub needle_is : IsNeedle needle n.bed n.at
  pub on : IsOnBed profile n
  pub hook : is_slider n.bed ≡ false
  pub named : carrier_of names name ≡ Some c

-- behind a word the first line has two needles between which loops are moved
pub record HasNeedles (profile : Profile) (text : List ℕ) (n n2 : Needle) (rest : List ℕ) : Type 0 where
  pub needle : List ℕ
  pub needle2 : List ℕ
  pub ends : BeginsAtEnd text
  pub line : HasFirstLine text (needle ∷ needle2 ∷ []) rest
  pub needle_is : IsNeedle needle n.bed n.at
  pub needle2_is : IsNeedle needle2 n2.bed n2.at
  pub on : IsOnBed profile n
  pub on2 : IsOnBed profile n2
  pub opposite : not_opposite n.bed n2.bed 2 ≡ None

-- the first line says this
pub record Says (profile : Profile) (names : List (List ℕ)) (text : List ℕ) (usual : Usual) (rest : List ℕ) : Type 0 where
  pub word : List ℕ
  pub tokens : List (List ℕ)
  pub line : HasFirstLine text (word ∷ tokens) rest
  pub few : length tokens ≤ 3
  pub reads : TokensReadAs profile names (word ∷ tokens) (usual_read usual)
