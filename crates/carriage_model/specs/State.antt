-- Where a machine stands: its rack, its carriers, and the loops on its needles.
use Rattle.std.specs.Prelude.{ℕ, ℤ, pos, ◌-ℤ◌, unsigned_abs, nat_eq, nat_le, Bool, true, List, [], ◌++◌, Option, None, Some, if◌then◌else◌}
use Rattle.std.specs.List.{list_any}
use Rattle.knit_base.specs.declared.needle.Needle.{Needle}
use Rattle.knit_base.specs.declared.yarns.CarrierNo.{CarrierNo}
use Rattle.knit_base.specs.Needle.{same_needle}

pub record State : Type 0 where
  -- the rack in quarters of a needle: at rack r, back needle y faces front needle y + r
  pub rack : ℤ
  -- the carriers in action, and those whose yarn the hook holds. A set has a bit for each carrier
  pub ins : ℕ
  pub hook : ℕ
  -- where floats have a limit: the number of the needle on which each carrier formed its last loop, none where it formed none since
  -- it came in
  pub lasts : CarrierNo → Option ℤ
  -- the loops on each needle in the order of their arrival, each named by the line that made it
  pub stacks : Needle → List ℕ

-- a machine that nothing was knitted on: rack 0, no carrier in action, no loop
abbrev pub empty_state : State
empty_state = record { rack = pos 0; ins = 0; hook = 0; lasts = λ c. None; stacks = λ n. [] }

-- the needles hold what they held, but this needle holds these loops
abbrev pub with_stack : (Needle → List ℕ) → Needle → List ℕ → Needle → List ℕ
with_stack stacks n loops m = if same_needle n m then loops else stacks m

-- all loops of the first needle go over behind those of the second, in their order, and the first is left with these
abbrev pub stacks_transferred : Needle → Needle → List ℕ → (Needle → List ℕ) → Needle → List ℕ
stacks_transferred n n2 left stacks = with_stack (with_stack stacks n2 (stacks n2 ++ stacks n)) n left

abbrev pub same_carrier : CarrierNo → CarrierNo → Bool
same_carrier c d = nat_eq c.0 d.0

-- the last needle of each of the carriers has this number, or none; the others have what they had
abbrev pub with_lasts : (CarrierNo → Option ℤ) → List CarrierNo → Option ℤ → CarrierNo → Option ℤ
with_lasts lasts cs at c = if list_any (same_carrier c) cs then at else lasts c

-- the last needle, if there is one, is at most so many numbers away from this number
abbrev pub is_near : ℕ → Option ℤ → ℤ → Bool
is_near float None at = true
is_near float (Some last) at = nat_le (unsigned_abs (last -ℤ at)) float
