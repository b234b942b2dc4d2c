-- What of a text was written in its canonical spelling. No public contract speaks of it.
use Rattle.std.specs.Prelude.{◌≡◌, ◌≢◌, ℕ, ◌+◌, ◌<◌, ◌≤◌, false, List, [], ◌∷◌, ◌++◌, length, take, drop, All}
use Rattle.std.specs.List.{AllZip}
use Rattle.knit_base.specs.declared.profile.Profile.{Profile}
use Rattle.knit_base.specs.Lines.{lines_of}
use Rattle.line_cutter.specs.Cut.{IsGoodLine}
use Rattle.knitout_reader.specs.Tokens.{is_blank, is_semicolon}
use Rattle.knitout_writer.specs.Canonical.{IsCanonicalLine, tokens_spaced, with_line_feeds}

-- an ASCII byte that ends no line
pub record IsPlainByte (byte : ℕ) : Type 0 where
  pub ascii : byte < 128
  pub feed : byte ≢ 10
  pub back : byte ≢ 13

-- a byte of a carrier's name, which begins no comment
pub record IsCopiedNameByte (byte : ℕ) : Type 0 where
  pub plain : IsPlainByte byte
  pub blank : is_blank byte ≡ false
  pub comment : is_semicolon byte ≡ false

-- a name of such bytes
pub record IsCopiedName (name : List ℕ) : Type 0 where
  pub some : 0 < length name
  pub bytes : All IsCopiedNameByte name

-- some names, with one space between two
pub record AreSpacedNames (text : List ℕ) : Type 0 where
  pub names : List (List ℕ)
  pub some : 0 < length names
  pub each : All IsCopiedName names
  pub spelt : text ≡ tokens_spaced names
  pub bytes : All IsPlainByte text

-- a line of plain bytes that is its own canonical spelling, whatever the profile and the carriers are
pub record IsCopiedLine (line : List ℕ) : Type 0 where
  pub bytes : All IsPlainByte line
  pub canonical : (profile : Profile) (names : List (List ℕ)) → IsCanonicalLine profile names line line

-- such a line begins the text, and takes so many bytes with its line feed
pub record BeginsWithCopy (text : List ℕ) (len : ℕ) : Type 0 where
  pub line : List ℕ
  pub some : 0 < len
  pub within : len ≤ length text
  pub bytes : take len text ≡ line ++ 10 ∷ []
  pub lines : lines_of text ≡ line ∷ lines_of (drop len text)
  pub good : IsGoodLine line
  pub copied : IsCopiedLine line

-- so many lines of the text stand between two places and are good, and this is their canonical text
pub record IsWrittenCanonically (profile : Profile) (names : List (List ℕ)) (text : List ℕ) (from to count : ℕ) (written : List ℕ) : Type 0 where
  pub lines : List (List ℕ)
  pub texts : List (List ℕ)
  pub first : lines_of (drop from text) ≡ lines ++ lines_of (drop to text)
  pub counted : length lines ≡ count
  pub few : from + count ≤ to
  pub within : from + count ≤ length text
  pub good : All IsGoodLine lines
  pub canonical : AllZip (IsCanonicalLine profile names) lines texts
  pub spelt : written ≡ with_line_feeds texts

-- such a text, of so many lines before this place, was appended
pub record WroteOn (profile : Profile) (names : List (List ℕ)) (text : List ℕ) (to count : ℕ) (old new : List ℕ) : Type 0 where
  pub written : List ℕ
  pub is : IsWrittenCanonically profile names text 0 to count written
  pub appended : new ≡ old ++ written

-- the canonical text of these lines was appended
pub record WroteAll (profile : Profile) (names : List (List ℕ)) (lines : List (List ℕ)) (old new : List ℕ) : Type 0 where
  pub texts : List (List ℕ)
  pub canonical : AllZip (IsCanonicalLine profile names) lines texts
  pub appended : new ≡ old ++ with_line_feeds texts
