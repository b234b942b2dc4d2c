-- Kept conditions on sizes, found by the needles that they name.
use Rattle.std.specs.Prelude.{◌≡◌, ◌≤◌, ◌<◌, ◌%◌, ◌⊎◌, ℕ, List, length, unsigned_abs, slice_index_or}
use Rattle.std.specs.List.{Contains}
use Rattle.knit_base.specs.declared.needle.Needle.{Needle}
use Rattle.face_data.specs.declared.face.Check.{Check}
use Rattle.face_data.specs.declared.face.Cond.{Cond}
use Rattle.face_data.specs.View.{size_needles_of}
use Rattle.block_summary.specs.declared.chains.ConditionLink.{ConditionLink}

-- which of 256 chains is that of the needle
abbrev pub chain_of : Needle → ℕ
chain_of n = unsigned_abs n.at % 256

-- if there is a link of the chain before the limit, the last one stands at this place
abbrev pub LeadsTo : List ConditionLink → ℕ → ℕ → ℕ → Type 0
LeadsTo links limit chain place =
    (k : ℕ) (d : ConditionLink) → k < limit → (slice_index_or links k d).chain ≡ chain → (k ≤ place) × (place < limit) × ((slice_index_or links place d).chain ≡ chain)

-- each link leads to the one before it in its chain
abbrev pub NeedleChainsLeadBack : List ConditionLink → Type 0
NeedleChainsLeadBack links = (k : ℕ) (d : ConditionLink) → k < length links → LeadsTo links k (slice_index_or links k d).chain (slice_index_or links k d).next

-- the places lead to the last link of each chain
abbrev pub AreLasts : List ℕ → List ConditionLink → Type 0
AreLasts places links = (chain : ℕ) → chain < 256 → LeadsTo links (length links) chain (slice_index_or places chain 0)

-- what contracts see of chains: the links in their order, and for how many there is room
pub record ChainsView : Type 0 where
  pub links : List ConditionLink
  pub room : ℕ

-- some link leads from the needle's chain to the condition
abbrev pub HasLink : List ConditionLink → Needle → Cond → Type 0
HasLink links n cond = (l : ConditionLink) × Contains links l × (l.cond ≡ cond) × (l.chain ≡ chain_of n)

-- each needle that a kept condition names has a link to it, and each link leads to a kept condition
pub record AreFound (names : List Needle) (checks : List Check) (links : List ConditionLink) : Type 0 where
  pub needles : (c : Check) (n : Needle) → Contains checks c → Contains (size_needles_of names c.cond) n → HasLink links n c.cond
  pub conds : (l : ConditionLink) → Contains links l → (c : Check) × Contains checks c × (c.cond ≡ l.cond)

-- the needles have got links to the condition, and no other link was made
pub record AreAdded (needles : List Needle) (cond : Cond) (old new : List ConditionLink) : Type 0 where
  pub stay : (l : ConditionLink) → Contains old l → Contains new l
  pub added : (n : Needle) → Contains needles n → HasLink new n cond
  pub others : (l : ConditionLink) → Contains new l → Contains old l ⊎ (l.cond ≡ cond)
