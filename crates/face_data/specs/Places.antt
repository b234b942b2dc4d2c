-- Where a needle stands, or would stand, in a list in the order of needles.
use Rattle.std.specs.Prelude.{◌≡◌, ℕ, ◌≤◌, ◌<◌, List, length, take, drop, slice_index_or, map}
use Rattle.std.specs.List.{AllByRecursion}
use Rattle.std.specs.declared.cmp.Ordering.TheVariants.{Less, Greater}
use Rattle.knit_base.specs.declared.needle.Needle.{Needle}
use Rattle.knit_base.specs.Needle.{needle_cmp}
use Rattle.face_data.specs.Segments.{Changed}

-- all changed needles come before the needle
abbrev pub AllBefore : Needle → List Changed → Type 0
AllBefore n changes = AllByRecursion (λ m. needle_cmp m n ≡ Less) (map (λ (c : Changed). c.0) changes)

-- all changed needles come after it
abbrev pub AllBehind : Needle → List Changed → Type 0
AllBehind n changes = AllByRecursion (λ m. needle_cmp m n ≡ Greater) (map (λ (c : Changed). c.0) changes)

-- the needle stands at this place
pub record ChangeStandsAt (changes : List Changed) (n : Needle) (i : ℕ) : Type 0 where
  pub within : i < length changes
  pub is : (d : Changed) → (slice_index_or changes i d).0 ≡ n

-- the needle isn't there, and would stand at this place
pub record GoesAt (changes : List Changed) (n : Needle) (i : ℕ) : Type 0 where
  pub within : i ≤ length changes
  pub before : AllBefore n (take i changes)
  pub behind : AllBehind n (drop i changes)
