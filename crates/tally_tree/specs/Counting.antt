-- Lines counted one by one, before their needles are sorted.
use Rattle.std.specs.Prelude.{◌≡◌, ℕ, ◌+◌, ◌-◌, ◌<◌, ◌≤◌, ◌^◌, Bool, List, [], ◌∷◌, ◌++◌, All, length, map, flat_map, count_by, slice_index, if◌then◌else◌}
use Rattle.std.specs.List.{range_with_len}
use Rattle.knit_base.specs.declared.instr.Read.{Read}
use Rattle.knit_base.specs.declared.profile.Profile.{Profile}
use Rattle.knit_base.specs.Lawful.{IsLawfulRead}
use Rattle.knitout_reader.specs.Reading.{ReadsAs}
use Rattle.block_summary.specs.Prepared.{AreReadings}
use Rattle.pass_grouping.specs.declared.operation.Class.{Class}
use Rattle.pass_grouping.specs.declared.operation.Class.TheVariants as class
use Rattle.tally_tree.specs.Leaves.{IsOnBeds}
use Rattle.tally_tree.specs.Tallies.{TallyCounts, class_place, forms_with, is_of, operated_on}

-- one where it holds, and else none
abbrev pub one_if : Bool → ℕ
one_if holds = if holds then 1 else 0

-- one more can be counted of each carrier and each class within 32 bits, and there are few carriers
pub record HasCountRoom (v : TallyCounts) : Type 0 where
  pub carriers : length v.with_each ≤ 64
  pub with_each : All (λ n. n < 2 ^ 32 - 1) v.with_each
  pub ops : All (λ n. n < 2 ^ 32 - 1) v.ops

-- at each place the number is one more where this holds of the place, and else as before
pub record IsMoreWhere (holds : ℕ → Bool) (old new : List ℕ) : Type 0 where
  pub as_long : length new ≡ length old
  pub each : (k : ℕ) → k < length old → slice_index new k ≡ slice_index old k + one_if (holds k)

-- a line that reads so was counted: one more for each carrier that it forms a loop with, and for its class. Its needles stand behind the
-- others, as written
pub record Counts (r : Read) (old new : TallyCounts) : Type 0 where
  pub with_each : IsMoreWhere (λ c. forms_with c r) old.with_each new.with_each
  pub ops : (class : Class) → slice_index new.ops (class_place class) ≡ slice_index old.ops (class_place class) + one_if (is_of class r)
  pub as_long : length new.ops ≡ length old.ops
  pub needles : new.needles ≡ old.needles ++ operated_on r

-- this line was read by a profile and names, and counted as one more
pub record CountsLine (profile : Profile) (names : List (List ℕ)) (line : List ℕ) (old new : TallyCounts) : Type 0 where
  pub reading : Read
  pub read_as : ReadsAs profile names line reading
  pub lawful : IsLawfulRead profile (length names) reading
  pub one : new.lines ≡ old.lines + 1
  pub counts : Counts reading old new

-- the numbers are those of a tally of these readings, and the needles stand in the order of the lines, as often as they are operated on
pub record IsCountOf (carriers : ℕ) (readings : List Read) (v : TallyCounts) : Type 0 where
  pub lines : v.lines ≡ length readings
  pub with_each : v.with_each ≡ map (λ c. count_by (forms_with c) readings) (range_with_len 0 carriers)
  pub ops : v.ops ≡ count_by (is_of class.Form) readings ∷ count_by (is_of class.Split) readings ∷ count_by (is_of class.Move) readings ∷ count_by (is_of class.Drop) readings ∷ []
  pub needles : v.needles ≡ flat_map operated_on readings

-- these lines were counted, read by a profile and names
pub record AreLinesCounted (profile : Profile) (names : List (List ℕ)) (text : List (List ℕ)) (v : TallyCounts) : Type 0 where
  pub readings : List Read
  pub read_as : AreReadings profile names text readings
  pub count : IsCountOf (length names) readings v
  pub on_beds : IsOnBeds v
