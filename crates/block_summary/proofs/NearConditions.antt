-- Conditions on last needles among those that are kept.
use Rattle.std.proofs.Common.{◌≡◌, ◌<◌, ℕ, ℤ, Bool, true, false, List, [], ◌∷◌, get_or, length, map, refl, sym, ap, ◌∙◌, arith}
use Rattle.std.specs.Prelude.{nat_eq, ◌&&◌, ◌≢◌}
use Rattle.std.specs.List.{Contains, HoldsAt}
use Rattle.std.specs.Ordering.{int_eq}
use Rattle.std.proofs.lemmas.Bool.{and_parts, eqb-true}
use Rattle.std.proofs.lemmas.Bool.Decides.{Decides-int_eq}
use Rattle.std.proofs.lemmas.List.Elements.{Contains-get_or}
use Rattle.knit_base.specs.declared.needle.Needle.{Needle}
use Rattle.knit_base.specs.declared.yarns.CarrierNo.{CarrierNo}
use Rattle.face_data.specs.declared.bearing.Bearing.{Bearing}
use Rattle.face_data.specs.declared.bearing.Bearing.TheVariants.{Implied, Refuted, Silent}
use Rattle.face_data.specs.declared.face.Check.{Check}
use Rattle.face_data.specs.declared.face.Cond.{Cond}
use Rattle.face_data.specs.declared.face.Cond.TheVariants.{RackIs, CarrierIn, CarrierOut, HookFree, HookIs, HookLacks, SizeAtMost, LastNear}
use Rattle.face_data.specs.Answers.ConditionAnswer.{asks}
use Rattle.face_data.specs.Bearings.{bearing, if_so}
use Rattle.face_data.specs.Composition.{from_bearing, answer_of_kept}
use Rattle.face_data.specs.Conditions.{Ask, ask_of}
use Rattle.face_data.specs.Conditions.Ask.{rack_is, carrier_in, carrier_out, hook_free, hook_is, hook_lacks, size_at_most, last_near}
use Rattle.face_data.specs.Digests.{IsNearCond}
use Rattle.face_data.specs.Summaries.{AskedCondition}
use Rattle.face_data.specs.View.{asked_of_check}
use Rattle.block_summary.proofs.AskedHold.{implies_itself}
use Rattle.block_summary.proofs.FoundConditions.{implied_by, left_by_all, not_refuted}

-- nothing refutes a condition on a last needle
never_refuted_near : (p : Ask) (c : CarrierNo) (at : ℤ) (float : ℕ) → bearing p (last_near c at float) ≡ Refuted → ⊥
unfolding bearing
never_refuted_near (last_near d n f) c at float e = not_refuted (nat_eq d.0 c.0 && (int_eq n at && nat_eq f float)) e
never_refuted_near (rack_is x) c at float e = absurd (cc)
never_refuted_near (carrier_in x) c at float e = absurd (cc)
never_refuted_near (carrier_out x) c at float e = absurd (cc)
never_refuted_near hook_free c at float e = absurd (cc)
never_refuted_near (hook_is x) c at float e = absurd (cc)
never_refuted_near (hook_lacks x) c at float e = absurd (cc)
never_refuted_near (size_at_most names most) c at float e = absurd (cc)

-- only the same one says anything of it
silent_other : (names : List Needle) (cond : Cond) (c : CarrierNo) (at : ℤ) (float : ℕ) → cond ≢ LastNear c at float → bearing (ask_of names cond) (last_near c at float) ≡ Silent
unfolding bearing
silent_other names (LastNear d n f) c at float other = go (nat_eq d.0 c.0 && (int_eq n at && nat_eq f float)) refl
  where
    go : (b : Bool) → (nat_eq d.0 c.0 && (int_eq n at && nat_eq f float)) ≡ b → if_so b Implied ≡ Silent
    go true e =
        let first = and_parts (nat_eq d.0 c.0) (int_eq n at && nat_eq f float) e in
        let rest = and_parts (int_eq n at) (nat_eq f float) first.1 in
        let carrier : d.0 ≡ c.0 = eqb-true d.0 c.0 first.0 in
        let number : n ≡ at = (Decides-int_eq n at).0 rest.0 in
        let limit : f ≡ float = eqb-true f float rest.1 in
        absurd (other (λ i. LastNear (record { 0 = carrier i }) (number i) (limit i)))
    go false e = refl
silent_other names (RackIs q) c at float other = refl
silent_other names (CarrierIn d) c at float other = refl
silent_other names (CarrierOut d) c at float other = refl
silent_other names HookFree c at float other = refl
silent_other names (HookIs set) c at float other = refl
silent_other names (HookLacks d) c at float other = refl
silent_other names (SizeAtMost p most) c at float other = refl

near_found : (names : List Needle) (checks : List Check) (c : CarrierNo) (at : ℤ) (float : ℕ) (found : Bool) →
    (found ≡ true → (k : Check) × Contains checks k × (k.cond ≡ LastNear c at float)) → (found ≡ false → (k : Check) → Contains checks k → k.cond ≢ LastNear c at float) →
    answer_of_kept (map (asked_of_check names) checks) (last_near c at float) ≡ from_bearing (if_so found Implied) (asks (last_near c at float))
near_found names checks c at float true so none =
    let w = so refl in
    implied_by names checks w.0 (last_near c at float) (λ p. never_refuted_near p c at float) w.1
    (ap (λ (d : Cond). bearing (ask_of names d) (last_near c at float)) w.2 ∙ implies_itself (last_near c at float))
near_found names checks c at float false so none =
    left_by_all names checks (last_near c at float) (λ k there. silent_other names k.cond c at float (none refl k there))

-- what is found by looking for the same condition is what the kept conditions say
near_as_found : (names : List Needle) (checks : List Check) (cond : Cond) (found : Bool) → IsNearCond cond →
    (found ≡ true → (k : Check) × Contains checks k × (k.cond ≡ cond)) → (found ≡ false → (k : Check) → Contains checks k → k.cond ≢ cond) →
    answer_of_kept (map (asked_of_check names) checks) (ask_of [] cond) ≡ from_bearing (if_so found Implied) (asks (ask_of [] cond))
near_as_found names checks (LastNear c at float) found near so none = near_found names checks c at float found so none
near_as_found names checks (RackIs q) found near so none = absurd near
near_as_found names checks (CarrierIn c) found near so none = absurd near
near_as_found names checks (CarrierOut c) found near so none = absurd near
near_as_found names checks HookFree found near so none = absurd near
near_as_found names checks (HookIs set) found near so none = absurd near
near_as_found names checks (HookLacks c) found near so none = absurd near
near_as_found names checks (SizeAtMost p most) found near so none = absurd near

-- The same as the code puts it.
pub near_says : (names : List Needle) (checks lent : List Check) (kept : List AskedCondition) (cond : Cond) (found : Bool) (r : Bearing) → lent ≡ checks → map (asked_of_check names) checks ≡ kept → IsNearCond cond →
    (found ≡ true → (k : Check) × Contains lent k × (k.cond ≡ cond)) → (found ≡ false → (k : Check) → Contains lent k → k.cond ≢ cond) →
    if_so found Implied ≡ r → answer_of_kept kept (ask_of [] cond) ≡ from_bearing r (asks (ask_of [] cond))
near_says names checks lent kept cond found r same seen near so none is =
    ap (λ (ks : List AskedCondition). answer_of_kept ks (ask_of [] cond)) (sym seen)
    ∙ ap (λ (cs : List Check). answer_of_kept (map (asked_of_check names) cs) (ask_of [] cond)) (sym same)
    ∙ near_as_found names lent cond found near so none
    ∙ ap (λ b. from_bearing b (asks (ask_of [] cond))) is

-- a place at which the condition stands
pub found_one : (checks : List Check) (cond : Cond) (k : ℕ) → k < length checks → HoldsAt (λ (check : Check). check.cond ≡ cond) checks k → (c : Check) × Contains checks c × (c.cond ≡ cond)
found_one [] cond k within holds = absurd (omega (arith, within))
found_one (first ∷ rest) cond k within holds = (get_or (first ∷ rest) k first, Contains-get_or (first ∷ rest) k first within, holds first)
