-- What the tokens of a line spell, before any rule.
--
-- The operations, their words and operands, needles, directions and comments are those of the public Knitout (.k) File Format
-- Specification. This project's own are: the list of shapes (a line of any other form is unreadable), that `split` and `xfer`
-- name two needles, that free tokens may follow `stitch`, `pause` and an extension, and that a rack is a decimal.
use Rattle.std.specs.Prelude.{◌≡◌, ℕ, ◌<◌, ◌≤◌, ℤ, Bool, List, [], ◌∷◌, ◌++◌, length, Option, MatchOption, codes}
use Rattle.knit_base.specs.declared.needle.Bed.{Bed}
use Rattle.knit_base.specs.declared.needle.Dir.{Dir}
use Rattle.knit_base.specs.Spelling.{dir_word}
use Rattle.knitout_reader.specs.Numbers.{IsNeedle, IsRack, IsQuarter}

-- An operation and its operands as they are written. A needle is a bed and a number of any size, and a carrier is its name. A
-- rack is whether it is negative, the digits of its whole needles, and how many quarters are left, if what is left is quarters.
pub data Shape : Type 0 where
  CarryInShape : (carriers : List (List ℕ)) → Shape
  CarryOutShape : (carriers : List (List ℕ)) → Shape
  HookInShape : (carriers : List (List ℕ)) → Shape
  HookOutShape : (carriers : List (List ℕ)) → Shape
  ReleaseHookShape : (carriers : List (List ℕ)) → Shape
  StitchShape : (free : List (List ℕ)) → Shape
  PauseShape : (free : List (List ℕ)) → Shape
  ExtensionShape : (name : List ℕ) (free : List (List ℕ)) → Shape
  RackShape : (negative : Bool) (whole : List ℕ) (quarters : Option ℕ) → Shape
  KnitShape : (dir : Dir) (bed : Bed) (at : ℤ) (carriers : List (List ℕ)) → Shape
  TuckShape : (dir : Dir) (bed : Bed) (at : ℤ) (carriers : List (List ℕ)) → Shape
  MissShape : (dir : Dir) (bed : Bed) (at : ℤ) (carriers : List (List ℕ)) → Shape
  SplitShape : (dir : Dir) (bed : Bed) (at : ℤ) (bed2 : Bed) (at2 : ℤ) (carriers : List (List ℕ)) → Shape
  XferShape : (bed : Bed) (at : ℤ) (bed2 : Bed) (at2 : ℤ) → Shape
  DropShape : (bed : Bed) (at : ℤ) → Shape
  AmissShape : (bed : Bed) (at : ℤ) → Shape

-- the tokens begin with a needle, and others follow
pub record BeginsWithNeedle (tokens : List (List ℕ)) (bed : Bed) (at : ℤ) (others : List (List ℕ)) : Type 0 where
  pub needle : List ℕ
  pub spelled : tokens ≡ needle ∷ others
  pub named : IsNeedle needle bed at

-- a word and one carrier or more
pub record AreCarried (word : List ℕ) (tokens carriers : List (List ℕ)) : Type 0 where
  pub spelled : tokens ≡ word ∷ carriers
  pub some : 0 < length carriers

-- a word, a direction, a needle and carriers
pub record IsFormed (word : List ℕ) (tokens : List (List ℕ)) (dir : Dir) (bed : Bed) (at : ℤ) (carriers : List (List ℕ)) : Type 0 where
  pub operands : List (List ℕ)
  pub spelled : tokens ≡ word ∷ dir_word dir ∷ operands
  pub first : BeginsWithNeedle operands bed at carriers

-- a word, a direction, two needles and carriers
pub record IsDivided (word : List ℕ) (tokens : List (List ℕ)) (dir : Dir) (bed : Bed) (at : ℤ) (bed2 : Bed) (at2 : ℤ) (carriers : List (List ℕ)) : Type 0 where
  pub operands : List (List ℕ)
  pub others : List (List ℕ)
  pub spelled : tokens ≡ word ∷ dir_word dir ∷ operands
  pub first : BeginsWithNeedle operands bed at others
  pub second : BeginsWithNeedle others bed2 at2 carriers

-- a word and two needles
pub record IsTwoNeedleShape (word : List ℕ) (tokens : List (List ℕ)) (bed : Bed) (at : ℤ) (bed2 : Bed) (at2 : ℤ) : Type 0 where
  pub operands : List (List ℕ)
  pub others : List (List ℕ)
  pub spelled : tokens ≡ word ∷ operands
  pub first : BeginsWithNeedle operands bed at others
  pub second : BeginsWithNeedle others bed2 at2 []

-- a word and a needle
pub record IsNamed (word : List ℕ) (tokens : List (List ℕ)) (bed : Bed) (at : ℤ) : Type 0 where
  pub operands : List (List ℕ)
  pub spelled : tokens ≡ word ∷ operands
  pub first : BeginsWithNeedle operands bed at []

-- what stands behind the point of a rack is so many quarters of a needle, or no number of quarters
abbrev pub AreQuarters : List ℕ → Option ℕ → Type 0
AreQuarters fraction quarters = MatchOption quarters ((q : ℕ) → IsQuarter fraction q → ⊥) (λ q. IsQuarter fraction q)

-- a word and a rack
pub record IsRacked (word : List ℕ) (tokens : List (List ℕ)) (negative : Bool) (whole : List ℕ) (quarters : Option ℕ) : Type 0 where
  pub token : List ℕ
  pub fraction : List ℕ
  pub spelled : tokens ≡ word ∷ token ∷ []
  pub named : IsRack token negative whole fraction
  pub left : AreQuarters fraction quarters

-- the tokens of the carriers that an operation names
abbrev pub shape_carriers : Shape → List (List ℕ)
shape_carriers (CarryInShape carriers) = carriers
shape_carriers (CarryOutShape carriers) = carriers
shape_carriers (HookInShape carriers) = carriers
shape_carriers (HookOutShape carriers) = carriers
shape_carriers (ReleaseHookShape carriers) = carriers
shape_carriers (KnitShape dir bed at carriers) = carriers
shape_carriers (TuckShape dir bed at carriers) = carriers
shape_carriers (MissShape dir bed at carriers) = carriers
shape_carriers (SplitShape dir bed at bed2 at2 carriers) = carriers
shape_carriers shape = []

-- the tokens have this shape
abbrev pub TokensSpell : List (List ℕ) → Shape → Type 0
TokensSpell tokens (CarryInShape carriers) = AreCarried (codes "in") tokens carriers
TokensSpell tokens (CarryOutShape carriers) = AreCarried (codes "out") tokens carriers
TokensSpell tokens (HookInShape carriers) = AreCarried (codes "inhook") tokens carriers
TokensSpell tokens (HookOutShape carriers) = AreCarried (codes "outhook") tokens carriers
TokensSpell tokens (ReleaseHookShape carriers) = AreCarried (codes "releasehook") tokens carriers
TokensSpell tokens (StitchShape free) = tokens ≡ codes "stitch" ∷ free
TokensSpell tokens (PauseShape free) = tokens ≡ codes "pause" ∷ free
TokensSpell tokens (ExtensionShape name free) = tokens ≡ (codes "x-" ++ name) ∷ free
TokensSpell tokens (RackShape negative whole quarters) = IsRacked (codes "rack") tokens negative whole quarters
TokensSpell tokens (KnitShape dir bed at carriers) = IsFormed (codes "knit") tokens dir bed at carriers
TokensSpell tokens (TuckShape dir bed at carriers) = IsFormed (codes "tuck") tokens dir bed at carriers
TokensSpell tokens (MissShape dir bed at carriers) = IsFormed (codes "miss") tokens dir bed at carriers
TokensSpell tokens (SplitShape dir bed at bed2 at2 carriers) = IsDivided (codes "split") tokens dir bed at bed2 at2 carriers
TokensSpell tokens (XferShape bed at bed2 at2) = IsTwoNeedleShape (codes "xfer") tokens bed at bed2 at2
TokensSpell tokens (DropShape bed at) = IsNamed (codes "drop") tokens bed at
TokensSpell tokens (AmissShape bed at) = IsNamed (codes "amiss") tokens bed at

-- The operation that the tokens spell, if they spell one, names at most four carriers.
abbrev pub NameFewCarriers : List (List ℕ) → Type 0
NameFewCarriers tokens = (shape : Shape) → TokensSpell tokens shape → length (shape_carriers shape) ≤ 4
