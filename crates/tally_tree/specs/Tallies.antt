-- Tallies: what contracts see of one, what a list of readings comes to, and the sum of two.
use Rattle.std.specs.Prelude.{◌≡◌, ℕ, pos, ◌+◌, ◌<◌, ◌^◌, ◌==◌, ◌↔◌, Bool, false, List, [], ◌∷◌, Option, None, Some, length, map, flat_map, count_by, option_map}
use Rattle.std.specs.List.{Contains, list_any, range_with_len}
use Rattle.std.specs.Option.{option_map_or}
use Rattle.knit_base.specs.declared.instr.Instr.TheVariants.{Knit, Tuck, Split}
use Rattle.knit_base.specs.declared.instr.Read.{Read}
use Rattle.knit_base.specs.declared.instr.Read.TheVariants as read
use Rattle.knit_base.specs.declared.needle.Needle.{Needle}
use Rattle.knit_base.specs.declared.profile.Profile.{Profile}
use Rattle.knit_base.specs.declared.yarns.CarrierNo.{CarrierNo}
use Rattle.knit_base.specs.Instr.{needles_of}
use Rattle.block_summary.specs.Prepared.{AreReadings}
use Rattle.pass_grouping.specs.declared.operation.Class.{Class}
use Rattle.pass_grouping.specs.declared.operation.Class.TheVariants as class
use Rattle.pass_grouping.specs.Operations.{operation_of}
use Rattle.tally_tree.specs.declared.tally.Tally.{Tally}
use Rattle.tally_tree.specs.Needles.{AreNeedlesRising, merged_needles}

-- what contracts see of a tally: how many lines, the numbers of carriers and of operations, and the needles
pub record TallyCounts : Type 0 where
  pub lines : ℕ
  pub with_each : List ℕ
  pub ops : List ℕ
  pub needles : List Needle

abbrev pub counts_of_tally : Tally → TallyCounts
counts_of_tally tally = record { lines = tally.lines; with_each = tally.with.items; ops = tally.ops; needles = tally.needles.items }

-- the carriers of the loops that a line forms: those of a knit, a tuck or a split
abbrev pub formed_with : Read → List CarrierNo
formed_with (read.Instr (Knit dir n cs)) = cs
formed_with (read.Instr (Tuck dir n cs)) = cs
formed_with (read.Instr (Split dir n n2 cs)) = cs
formed_with r = []

-- the line forms loops of the carrier with this number
abbrev pub forms_with : ℕ → Read → Bool
forms_with c r = list_any (λ (carrier : CarrierNo). carrier.0 == c) (formed_with r)

-- the class of the operation that a line is to the carriage, if it is one; it doesn't depend on the line's number, its stretch and the rack
abbrev pub class_of : Read → Option Class
class_of r = option_map (λ op. op.class) (operation_of 0 0 (pos 0) r)

-- the place of a class among the numbers of a tally
abbrev pub class_place : Class → ℕ
class_place class.Form = 0
class_place class.Split = 1
class_place class.Move = 2
class_place class.Drop = 3

-- the line is an operation of this class
abbrev pub is_of : Class → Read → Bool
is_of class r = option_map_or (λ own. class_place own == class_place class) (class_of r) false

-- the needles of an operation, and none of what is no operation
abbrev pub where_some : Option Class → List Needle → List Needle
where_some None needles = []
where_some (Some class) needles = needles

abbrev pub operated_on : Read → List Needle
operated_on (read.Instr i) = where_some (class_of (read.Instr i)) (needles_of i)
operated_on r = []

-- what these readings come to, for so many carriers: how many there are; for each carrier, how many form loops with it; how many
-- operations of each class there are; and the needles of these operations, rising, so that each stands once
pub record IsTallyOf (carriers : ℕ) (readings : List Read) (v : TallyCounts) : Type 0 where
  pub lines : v.lines ≡ length readings
  pub with_each : v.with_each ≡ map (λ c. count_by (forms_with c) readings) (range_with_len 0 carriers)
  pub ops : v.ops ≡ count_by (is_of class.Form) readings ∷ count_by (is_of class.Split) readings ∷ count_by (is_of class.Move) readings ∷ count_by (is_of class.Drop) readings ∷ []
  pub rising : AreNeedlesRising v.needles
  pub needles : (n : Needle) → Contains v.needles n ↔ Contains (flat_map operated_on readings) n

-- what these lines come to, read by a profile and names
abbrev pub IsLineTally : Profile → List (List ℕ) → List (List ℕ) → TallyCounts → Type 0
IsLineTally profile names lines v = (readings : List Read) × AreReadings profile names lines readings × IsTallyOf (length names) readings v

-- numbers, added one by one
abbrev pub numbers_added : List ℕ → List ℕ → List ℕ
numbers_added [] ys = []
numbers_added (x ∷ xs) [] = []
numbers_added (x ∷ xs) (y ∷ ys) = (x + y) ∷ numbers_added xs ys

-- they add up within 32 bits
abbrev pub AddUp : List ℕ → List ℕ → Type 0
AddUp [] ys = Unit {0}
AddUp (x ∷ xs) [] = Unit {0}
AddUp (x ∷ xs) (y ∷ ys) = (x + y < 2 ^ 32) × AddUp xs ys

-- the tally of the lines of one and then of the other
abbrev pub joined_counts : TallyCounts → TallyCounts → TallyCounts
joined_counts a b = record { lines = a.lines + b.lines; with_each = numbers_added a.with_each b.with_each; ops = numbers_added a.ops b.ops; needles = merged_needles a.needles b.needles }

-- both are for as many carriers, and their numbers add up
pub record CountsFit (a b : TallyCounts) : Type 0 where
  pub carriers : length a.with_each ≡ length b.with_each
  pub lines : a.lines + b.lines < 2 ^ 32
  pub with_fit : AddUp a.with_each b.with_each
  pub ops_fit : AddUp a.ops b.ops

-- a step for each number and needle
abbrev pub cost : TallyCounts → ℕ
cost a = length a.with_each + length a.needles + 5
