-- What the effect makes of the carriers in action.
use Rattle.std.proofs.Common.{◌≡◌, ℕ, Bool, true, false, ◌||◌, List, [], ◌∷◌, map, Option, None, Some, bit_or, refl, ap, ◌∙◌, arith}
use Rattle.std.specs.Prelude.{ℤ, if◌then◌else◌, unwrap_or}
use Rattle.std.specs.List.{list_any}
use Rattle.std.proofs.lemmas.Bool.Decides.{nat_tests}
use Rattle.knit_base.specs.declared.instr.Instr.{Instr}
use Rattle.knit_base.specs.declared.instr.Instr.TheVariants.{CarryIn, CarryOut, HookIn, HookOut, Knit, Tuck, Split}
use Rattle.knit_base.specs.declared.yarns.CarrierNo.{CarrierNo}
use Rattle.knit_base.specs.Yarns.{mask_of, with_carriers, without_carriers, without_set}
use Rattle.face_data.specs.Summaries.{IsEffectOf}
use Rattle.carriage_model.specs.State.{same_carrier, with_lasts}
use Rattle.carriage_model.specs.Steps.{given_lasts, kept_lasts}
use Rattle.face_data.specs.Lasts.{last_at, lasts_after}
use Rattle.carrier_rules.specs.Carriers.{effect_of, carrier_last, lasts_given, lasts_of}
use Rattle.knit_base.proofs.Masks.{bit_or-none, without_set-none}
use Rattle.face_data.proofs.Drafts.{ins-nobody}

-- those of the list come
come : (ins : ℕ) (cs : List CarrierNo) → bit_or (without_set ins 0) (mask_of cs) ≡ with_carriers ins cs
come ins cs = ap (λ set. bit_or set (mask_of cs)) (without_set-none ins)

-- those of the list go
go : (ins : ℕ) (cs : List CarrierNo) → bit_or (without_set ins (mask_of cs)) 0 ≡ without_carriers ins cs
go ins cs = bit_or-none (without_set ins (mask_of cs))

same_either_way : (c d : CarrierNo) → same_carrier d c ≡ same_carrier c d
same_either_way c d = grind (arith, nat_tests)

either_of : (b t : Bool) (at old : Option ℤ) (o : Option (Option ℤ)) → unwrap_or o old ≡ (if t then at else old) → unwrap_or (if b then Some at else o) old ≡ (if b || t then at else old)
either_of true t at old o e = refl
either_of false t at old o e = e

-- the last needles are those of the list's carriers
pub lasts-each : (at : Option ℤ) (cs : List CarrierNo) (old : CarrierNo → Option ℤ) (c : CarrierNo) → lasts_after (map (carrier_last at) cs) old c ≡ with_lasts old cs at c
lasts-each at [] old c = refl
lasts-each at (d ∷ ds) old c =
    ap (λ b. unwrap_or (if b then Some at else last_at (map (carrier_last at) ds) c) (old c)) (same_either_way c d)
    ∙ either_of (same_carrier c d) (list_any (same_carrier c) ds) at (old c) (last_at (map (carrier_last at) ds) c) (lasts-each at ds old c)

-- the last needles are those that the instruction gives
lasts-given : (instr : Instr) (old : CarrierNo → Option ℤ) (c : CarrierNo) → lasts_after (lasts_given instr) old c ≡ given_lasts instr old c
lasts-given (CarryIn cs) old c = lasts-each None cs old c
lasts-given (CarryOut cs) old c = lasts-each None cs old c
lasts-given (HookIn cs) old c = lasts-each None cs old c
lasts-given (HookOut cs) old c = lasts-each None cs old c
lasts-given (Knit dir n cs) old c = lasts-each (Some n.at) cs old c
lasts-given (Tuck dir n cs) old c = lasts-each (Some n.at) cs old c
lasts-given (Split dir n n2 cs) old c = lasts-each (Some n.at) cs old c
lasts-given instr old c = refl

pub lasts-are : (limit : Option ℕ) (instr : Instr) (old : CarrierNo → Option ℤ) → lasts_after (lasts_of limit instr) old ≡ kept_lasts limit instr old
lasts-are None instr old = refl
lasts-are (Some float) instr old = λ i c. lasts-given instr old c i

-- the effect is what the instruction does
pub effect-is : (instr : Instr) → IsEffectOf instr (effect_of instr)
effect-is (CarryIn cs) = record { rack = λ k s. refl; ins = λ k s. come s.ins cs; hook = λ k s. refl }
effect-is (CarryOut cs) = record { rack = λ k s. refl; ins = λ k s. go s.ins cs; hook = λ k s. refl }
effect-is (HookIn cs) = record { rack = λ k s. refl; ins = λ k s. come s.ins cs; hook = λ k s. refl }
effect-is (HookOut cs) = record { rack = λ k s. refl; ins = λ k s. go s.ins cs; hook = λ k s. refl }
effect-is (Knit dir n []) = record { rack = λ k s. refl; ins = λ k s. ins-nobody s.ins; hook = λ k s. refl }
effect-is (Knit dir n (c ∷ cs)) = record { rack = λ k s. refl; ins = λ k s. ins-nobody s.ins; hook = λ k s. refl }
effect-is (Tuck dir n []) = record { rack = λ k s. refl; ins = λ k s. ins-nobody s.ins; hook = λ k s. refl }
effect-is (Tuck dir n (c ∷ cs)) = record { rack = λ k s. refl; ins = λ k s. ins-nobody s.ins; hook = λ k s. refl }
effect-is (Split dir n n2 []) = record { rack = λ k s. refl; ins = λ k s. ins-nobody s.ins; hook = λ k s. refl }
effect-is (Split dir n n2 (c ∷ cs)) = record { rack = λ k s. refl; ins = λ k s. ins-nobody s.ins; hook = λ k s. refl }
effect-is instr = record { rack = λ k s. refl; ins = λ k s. ins-nobody s.ins; hook = λ k s. refl }
