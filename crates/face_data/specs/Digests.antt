-- What conditions that are kept ask of the rack, of carriers and of the hook.
use Rattle.std.specs.Prelude.{◌<◌, ◌^◌, nat_eq, List, Option, Some, None, bit_or, fold, if◌then◌else◌}
use Rattle.std.specs.Ordering.{int_eq}
use Rattle.knit_base.specs.Yarns.{contains_carrier, lacks_carrier}
use Rattle.face_data.specs.declared.bearing.Bearing.{Bearing}
use Rattle.face_data.specs.declared.bearing.Bearing.TheVariants.{Implied, Refuted, Silent}
use Rattle.face_data.specs.declared.digest.Digest.{Digest}
use Rattle.face_data.specs.declared.face.Effect.{Effect}
use Rattle.face_data.specs.declared.face.Cond.{Cond}
use Rattle.face_data.specs.declared.face.Cond.TheVariants.{CarrierIn, CarrierOut, HookLacks, LastNear}
use Rattle.face_data.specs.Bearings.{if_so, same_or_not}
use Rattle.face_data.specs.Conditions.{Ask}
use Rattle.face_data.specs.Conditions.Ask.{rack_is, carrier_in, carrier_out, hook_free, hook_is, hook_lacks, size_at_most, last_near}
use Rattle.face_data.specs.Summaries.{AskedCondition}

-- nothing is asked
abbrev pub blank_digest : Digest
blank_digest = record { rack = None; ins = 0; outs = 0; hook = None; lacks = 0 }

-- the digest, and one more condition, of which it says nothing
unfoldable pub digest_with : Digest → Ask → Digest
digest_with digest (rack_is q) = record digest { rack = Some (record { 0 = q }) }
digest_with digest (carrier_in c) = record digest { ins = bit_or digest.ins (2 ^ c.0) }
digest_with digest (carrier_out c) = record digest { outs = bit_or digest.outs (2 ^ c.0) }
digest_with digest hook_free = record digest { hook = Some 0 }
digest_with digest (hook_is set) = record digest { hook = Some set }
digest_with digest (hook_lacks c) = record digest { lacks = bit_or digest.lacks (2 ^ c.0) }
digest_with digest (size_at_most names most) = digest
digest_with digest (last_near c at float) = digest

-- the digest of conditions in their order
abbrev pub digest_of : List AskedCondition → Digest
digest_of kept = fold (λ digest (c : AskedCondition). digest_with digest c.ask) blank_digest kept

-- what a value that is known says
abbrev pub bearing_by : {X : Type 0} → Option X → (X → Bearing) → Bearing
bearing_by None says = Silent
bearing_by (Some x) says = says x

-- what the digest says of a condition that isn't on sizes or on a last needle
unfoldable pub digest_bearing : Digest → Ask → Bearing
digest_bearing digest (rack_is q) = bearing_by digest.rack (λ p. same_or_not (int_eq p.0 q))
digest_bearing digest (carrier_in c) = if contains_carrier digest.ins c then Implied else if_so (contains_carrier digest.outs c) Refuted
digest_bearing digest (carrier_out c) = if contains_carrier digest.outs c then Implied else if_so (contains_carrier digest.ins c) Refuted
digest_bearing digest hook_free = bearing_by digest.hook (λ held. same_or_not (nat_eq held 0))
digest_bearing digest (hook_is set) = bearing_by digest.hook (λ held. same_or_not (nat_eq held set))
digest_bearing digest (hook_lacks c) =
    if contains_carrier digest.lacks c then Implied else bearing_by digest.hook (λ held. if_so (lacks_carrier held c) Implied)
digest_bearing digest (size_at_most names most) = Silent
digest_bearing digest (last_near c at float) = Silent

-- what is known, after a block of this effect, of a condition that isn't on sizes or on a last needle
unfoldable pub effect_bearing : Effect → Ask → Bearing
effect_bearing effect (rack_is q) = bearing_by effect.rack (λ p. same_or_not (int_eq p.0 q))
effect_bearing effect (carrier_in c) = if contains_carrier effect.came c then Implied else if_so (contains_carrier effect.went c) Refuted
effect_bearing effect (carrier_out c) = if contains_carrier effect.came c then Refuted else if_so (contains_carrier effect.went c) Implied
effect_bearing effect hook_free = bearing_by effect.hook (λ held. same_or_not (nat_eq held 0))
effect_bearing effect (hook_is set) = bearing_by effect.hook (λ held. same_or_not (nat_eq held set))
effect_bearing effect (hook_lacks c) = bearing_by effect.hook (λ held. same_or_not (lacks_carrier held c))
effect_bearing effect (size_at_most names most) = Silent
effect_bearing effect (last_near c at float) = Silent

-- the condition isn't on sizes or on a last needle
abbrev pub IsPlainCondition : Ask → Type 0
IsPlainCondition (size_at_most names most) = ⊥
IsPlainCondition (last_near c at float) = ⊥
IsPlainCondition ask = Unit {0}

-- the carrier of a condition is one of 64
abbrev pub CarrierFits : Cond → Type 0
CarrierFits (CarrierIn c) = c.0 < 64
CarrierFits (CarrierOut c) = c.0 < 64
CarrierFits (HookLacks c) = c.0 < 64
CarrierFits cond = Unit {0}

-- the condition is that a carrier's last needle is near
abbrev pub IsNearCond : Cond → Type 0
IsNearCond (LastNear c at float) = Unit {0}
IsNearCond cond = ⊥

-- the condition isn't on sizes
abbrev pub IsUnsized : Ask → Type 0
IsUnsized (size_at_most names most) = ⊥
IsUnsized ask = Unit {0}
