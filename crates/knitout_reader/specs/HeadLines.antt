-- The lines of a head that come one by one.
use Rattle.std.specs.Prelude.{◌≡◌, ◌≢◌, ℕ, ◌≤◌, Bool, false, List, [], ◌∷◌, length, Ok, Err}
use Rattle.knitout_reader.specs.declared.head.HeadFault.{HeadFault}
use Rattle.knitout_reader.specs.declared.head.HeadFault.TheVariants.{TwoCarriers, NoMemory}
use Rattle.knitout_reader.specs.declared.head_reader.HeadReader.{HeadReader}
use Rattle.knitout_reader.specs.declared.head_reader.Headers.{Headers}
use Rattle.knitout_reader.specs.declared.head_reader.Headers.TheVariants.{Missing, Declared, Refused, Several}
use Rattle.knitout_reader.specs.Head.{CarriersHeader, carriers_headers, head_len, is_head_line, is_magic, one_declared}

-- the first of the lines is the one with which a file begins
abbrev pub has_magic : List (List ℕ) → Bool
has_magic [] = false
has_magic (first ∷ lines) = is_magic first

-- one header, which declares these names
pub record DeclareOnce (headers : List CarriersHeader) (names : List (List ℕ)) : Type 0 where
  pub one : length headers ≡ 1
  pub declared : one_declared headers ≡ Ok names

-- one header, whose names are refused
pub record AreRefusedOnce (headers : List CarriersHeader) (fault : HeadFault) : Type 0 where
  pub one : length headers ≡ 1
  pub refused : one_declared headers ≡ Err fault
  pub named : fault ≢ NoMemory

-- several headers, of which the second is this line
pub record AreSeveral (headers : List CarriersHeader) (line : ℕ) : Type 0 where
  pub several : 2 ≤ length headers
  pub second : one_declared headers ≡ Err (TwoCarriers line)

-- this is kept of these headers
abbrev pub AreHeaders : List CarriersHeader → Headers → Type 0
AreHeaders headers Missing = headers ≡ []
AreHeaders headers (Declared names) = DeclareOnce headers names
AreHeaders headers (Refused fault) = AreRefusedOnce headers fault
AreHeaders headers (Several line) = AreSeveral headers line

-- these lines were taken, all of them lines of one head
pub record HasHeadLines (lines : List (List ℕ)) (reader : HeadReader) : Type 0 where
  pub counted : reader.lines ≡ length lines
  pub all : head_len lines ≡ length lines
  pub magic : reader.has_magic ≡ has_magic lines
  pub headers : AreHeaders (carriers_headers 1 lines) reader.headers

-- lines with which a head doesn't go on
abbrev pub AreBehindHead : List (List ℕ) → Type 0
AreBehindHead [] = Unit {0}
AreBehindHead (line ∷ lines) = is_head_line line ≡ false
