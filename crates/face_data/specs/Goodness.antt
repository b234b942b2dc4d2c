-- Summaries that composition can build on.
use Rattle.std.specs.Prelude.{◌≡◌, ℕ, ◌+◌, ◌^◌, ◌≤◌, ◌<◌, true, false, ◌⊎◌, List, [], ◌∷◌, length, map, All, IfSome, is_some}
use Rattle.std.specs.List.{Contains, sum_by}
use Rattle.std.specs.List.Sorted.{IsStrictlySortedBy}
use Rattle.knit_base.specs.declared.needle.Needle.{Needle}
use Rattle.knit_base.specs.declared.rule.Fault.{Fault}
use Rattle.knit_base.specs.declared.yarns.CarrierNo.{CarrierNo}
use Rattle.knit_base.specs.Needle.{needle_cmp}
use Rattle.knit_base.specs.Yarns.{contains_carrier}
use Rattle.face_data.specs.declared.face.Effect.{Effect}
use Rattle.face_data.specs.declared.face.Ending.{Ending}
use Rattle.face_data.specs.declared.face.Ending.TheVariants.{Through, Broken}
use Rattle.face_data.specs.declared.face.Seg.TheVariants.{New}
use Rattle.face_data.specs.Bearings.{bearing}
use Rattle.face_data.specs.declared.bearing.Bearing.TheVariants.{Silent}
use Rattle.face_data.specs.Conditions.{Ask}
use Rattle.face_data.specs.Conditions.Ask.{rack_is, carrier_in, carrier_out, hook_free, hook_is, hook_lacks, size_at_most, last_near}
use Rattle.face_data.specs.Segments.{Changed, segments_on, entry_needles_of, new_of}
use Rattle.face_data.specs.declared.face.Last.{Last}
use Rattle.face_data.specs.Lasts.{AreInOrder, last_at}
use Rattle.face_data.specs.Sets.{IsDistinct, AreNeedlesWithin, IsApart, NestedOrApart}
use Rattle.face_data.specs.Spots.{IsNumbered}
use Rattle.face_data.specs.Summaries.{AskedCondition, Summary}

-- the changes stand in the order of needles
abbrev pub IsInOrder : List Changed → Type 0
IsInOrder changes = IsStrictlySortedBy needle_cmp (map (λ (c : Changed). c.0) changes)

-- the needles whose entry stands in what this needle holds at the end
abbrev pub entries_on : List Changed → Needle → List Needle
entries_on changes m = entry_needles_of (segments_on changes m)

-- each entry stands at most once in what all needles hold at the end; an unchanged needle holds its own
pub record OwnsOnce (changes : List Changed) : Type 0 where
  pub distinct : (m : Needle) → IsDistinct (entries_on changes m)
  pub owner : (m other n : Needle) → Contains (entries_on changes m) n → Contains (entries_on changes other) n → m ≡ other

-- the needles lie within what one needle holds at the end, or apart from what any holds
abbrev pub NeedlesLieIn : List Changed → List Needle → Type 0
NeedlesLieIn changes xs = ((m : Needle) × AreNeedlesWithin xs (entries_on changes m)) ⊎ ((m : Needle) → IsApart xs (entries_on changes m))

-- no condition says anything of a later one: neither that it holds nor that it doesn't
abbrev pub IsIrredundant : List AskedCondition → Type 0
IsIrredundant [] = Unit {0}
IsIrredundant (c ∷ cs) = ((d : AskedCondition) → Contains cs d → bearing c.ask d.ask ≡ Silent) × IsIrredundant cs

-- the sizes that the needles are given at entry meet a condition on sizes; other conditions ask nothing of sizes
abbrev pub MeetsSize : Ask → (Needle → ℕ) → Type 0
MeetsSize (size_at_most names most) size = sum_by size names ≤ most
MeetsSize ask size = Unit {0}

-- the sizes meet each condition
abbrev pub MeetsSizes : List AskedCondition → (Needle → ℕ) → Type 0
MeetsSizes checks size = (c : AskedCondition) → Contains checks c → MeetsSize c.ask size

-- the size that a needle has after the block, by the sizes at entry
abbrev pub size_after : List Changed → (Needle → ℕ) → Needle → ℕ
size_after changes size m = sum_by size (entries_on changes m) + new_of (segments_on changes m)

-- a condition on sizes names at least one needle, each once and of the known ones
pub record SizeFits (limit : ℕ) (known names : List Needle) (most : ℕ) : Type 0 where
  pub some : 1 ≤ length names
  pub distinct : IsDistinct names
  pub within : AreNeedlesWithin names known
  pub at_most : most ≤ limit

-- the condition speaks of declared carriers and of known needles
abbrev pub AskFits : ℕ → ℕ → List Needle → Ask → Type 0
AskFits carriers limit known (rack_is q) = Unit {0}
AskFits carriers limit known (carrier_in c) = c.0 < carriers
AskFits carriers limit known (carrier_out c) = c.0 < carriers
AskFits carriers limit known hook_free = Unit {0}
AskFits carriers limit known (hook_is set) = set < 2 ^ carriers
AskFits carriers limit known (hook_lacks c) = c.0 < carriers
AskFits carriers limit known (size_at_most names most) = SizeFits limit known names most
AskFits carriers limit known (last_near c at float) = c.0 < carriers

-- the needles of a condition on sizes
abbrev pub size_needles_in : Ask → List Needle
size_needles_in (size_at_most names most) = names
size_needles_in ask = []

-- the lines of the checks don't fall
abbrev pub NeverFalls : List AskedCondition → Type 0
NeverFalls [] = Unit {0}
NeverFalls (c ∷ cs) = ((d : AskedCondition) → Contains cs d → c.fault.line ≤ d.fault.line) × NeverFalls cs

-- two conditions on the last needle of one carrier ask the same
abbrev pub AgreeOnLast : Ask → Ask → Type 0
AgreeOnLast (last_near c n f) (last_near d m g) = c ≡ d → (n ≡ m) × (f ≡ g)
AgreeOnLast p q = Unit {0}

-- a change speaks of known needles and of lines of the block
pub record ChangeFits (lines : ℕ) (known : List Needle) (c : Changed) : Type 0 where
  pub needle : Contains known c.0
  pub entries : AreNeedlesWithin (entry_needles_of c.1) known
  pub offsets : (offset : ℕ) → Contains c.1 (New offset) → offset < lines

-- a block that ends broken changes nothing, and its fault is no earlier than its checks
pub record BrokenFits (summary : Summary) (fault : Fault) : Type 0 where
  pub within : fault.line < summary.lines
  pub last : (c : AskedCondition) → Contains summary.checks c → c.fault.line ≤ fault.line
  pub unchanged : summary.changes ≡ []
  pub no_lasts : summary.lasts ≡ []
  pub made : summary.made ≡ 0

-- a carrier whose last needle is asked for is one whose last needle is set
abbrev pub IsSet : List Last → Ask → Type 0
IsSet lasts (last_near c at float) = is_some (last_at lasts c) ≡ true
IsSet lasts ask = Unit {0}

-- no carrier came and went, all are declared, and each condition on sizes lies within what one needle holds, or apart from all
pub record ThroughFits (carriers : ℕ) (summary : Summary) (effect : Effect) : Type 0 where
  pub lies : (c : AskedCondition) → Contains summary.checks c → NeedlesLieIn summary.changes (size_needles_in c.ask)
  pub apart : (c : CarrierNo) → contains_carrier effect.came c ≡ true → contains_carrier effect.went c ≡ false
  pub came : effect.came < 2 ^ carriers
  pub went : effect.went < 2 ^ carriers
  pub hook : IfSome effect.hook (λ set. set < 2 ^ carriers)
  pub nears : (c : AskedCondition) → Contains summary.checks c → IsSet summary.lasts c.ask

-- the ending fits the rest of the summary
abbrev pub EndingFits : ℕ → Summary → Ending → Type 0
EndingFits carriers summary (Broken fault) = BrokenFits summary fault
EndingFits carriers summary (Through effect) = ThroughFits carriers summary effect

-- the summary is fair for so many carriers, a limit on the loops of a needle, and known needles
pub record IsFair (carriers limit : ℕ) (known : List Needle) (summary : Summary) : Type 0 where
  pub made : summary.made ≤ summary.lines
  pub asks_fit : (c : AskedCondition) → Contains summary.checks c → AskFits carriers limit known c.ask
  pub within : (c : AskedCondition) → Contains summary.checks c → c.fault.line < summary.lines
  pub in_turn : NeverFalls summary.checks
  pub nested : (c d : AskedCondition) → Contains summary.checks c → Contains summary.checks d → NestedOrApart (size_needles_in c.ask) (size_needles_in d.ask)
  pub agree : (c d : AskedCondition) → Contains summary.checks c → Contains summary.checks d → AgreeOnLast c.ask d.ask
  pub in_order : IsInOrder summary.changes
  pub changes_fit : (c : Changed) → Contains summary.changes c → ChangeFits summary.lines known c
  pub owns : OwnsOnce summary.changes
  pub lasts_in_order : AreInOrder summary.lasts
  pub lasts_fit : (l : Last) → Contains summary.lasts l → l.carrier.0 < carriers
  pub sizes : (size : Needle → ℕ) → ((n : Needle) → size n ≤ limit) → MeetsSizes summary.checks size → (m : Needle) → size_after summary.changes size m ≤ limit
  pub ending : EndingFits carriers summary summary.ending

-- the summary is good: it is fair, and no condition says anything of a later one
pub record IsGood (carriers limit : ℕ) (known : List Needle) (summary : Summary) : Type 0 where
  pub fair : IsFair carriers limit known summary
  pub irredundant : IsIrredundant summary.checks

-- the summary is good for some machine: for so many carriers, a limit of 8 bits on the loops of a needle, and needles whose
-- numbers have 16 bits
pub record IsGoodFace (summary : Summary) : Type 0 where
  pub carriers : ℕ
  pub limit : ℕ
  pub known : List Needle
  pub few_loops : limit < 2 ^ 8
  pub numbers : All IsNumbered known
  pub good : IsGood carriers limit known summary
