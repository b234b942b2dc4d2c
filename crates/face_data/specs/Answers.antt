-- A condition that is asked after a first block, as one on the state at that block's entry.
use Rattle.std.specs.Prelude.{ℕ, ℤ, ◌-◌, Bool, true, false, nat_eq, nat_lt, List, [], ◌∷◌, Option, Some, None, if◌then◌else◌}
use Rattle.std.specs.Ordering.{int_eq}
use Rattle.knit_base.specs.declared.needle.Needle.{Needle}
use Rattle.knit_base.specs.Yarns.{contains_carrier, lacks_carrier}
use Rattle.face_data.specs.declared.face.Effect.{Effect}
use Rattle.face_data.specs.Conditions.{Ask}
use Rattle.face_data.specs.Conditions.Ask.{rack_is, carrier_in, carrier_out, hook_free, hook_is, hook_lacks, size_at_most, last_near}
use Rattle.face_data.specs.declared.face.Last.{Last}
use Rattle.carriage_model.specs.State.{is_near}
use Rattle.face_data.specs.Lasts.{last_at}
use Rattle.face_data.specs.Segments.{Changed, names_through, new_through}

-- what is known of a condition: that it holds, that it doesn't, or which condition on the entry it comes to
pub data ConditionAnswer : Type 0 where
  yes_it_does : ConditionAnswer
  no_it_does_not : ConditionAnswer
  asks : Ask → ConditionAnswer

-- the answer where it is known
abbrev pub answer_of : Bool → ConditionAnswer
answer_of true = yes_it_does
answer_of false = no_it_does_not

-- no needles hold few enough loops; some have to be asked
abbrev pub size_left : List Needle → ℕ → ConditionAnswer
size_left [] most = yes_it_does
size_left (n ∷ names) most = asks (size_at_most (n ∷ names) most)

-- these needles and so many new loops together
unfoldable pub size_answer : List Needle → ℕ → ℕ → ConditionAnswer
size_answer names new most = if nat_lt most new then no_it_does_not else size_left names (most - new)

-- the test of a value, where the first block sets it, and the condition as it is, where it doesn't
abbrev pub where_known : {X : Type 0} → Option X → (X → Bool) → Ask → ConditionAnswer
where_known None test ask = asks ask
where_known (Some x) test ask = answer_of (test x)

-- the condition that a carrier's last needle is near, where it is known
abbrev pub near_answer : Option (Option ℤ) → Ask → ℤ → ℕ → ConditionAnswer
near_answer None ask at float = asks ask
near_answer (Some last) ask at float = answer_of (is_near float last at)

-- the condition, read through the first block
unfoldable pub read_answer : Effect → List Last → List Changed → Ask → ConditionAnswer
read_answer effect lasts changes (rack_is q) = where_known effect.rack (λ r. int_eq r.0 q) (rack_is q)
read_answer effect lasts changes (carrier_in c) =
    if contains_carrier effect.came c then yes_it_does else (if contains_carrier effect.went c then no_it_does_not else asks (carrier_in c))
read_answer effect lasts changes (carrier_out c) =
    if contains_carrier effect.came c then no_it_does_not else (if contains_carrier effect.went c then yes_it_does else asks (carrier_out c))
read_answer effect lasts changes hook_free = where_known effect.hook (λ held. nat_eq held 0) hook_free
read_answer effect lasts changes (hook_is set) = where_known effect.hook (λ held. nat_eq held set) (hook_is set)
read_answer effect lasts changes (hook_lacks c) = where_known effect.hook (λ held. lacks_carrier held c) (hook_lacks c)
read_answer effect lasts changes (size_at_most names most) = size_answer (names_through changes names) (new_through changes names) most
read_answer effect lasts changes (last_near c at float) = near_answer (last_at lasts c) (last_near c at float) at float
