-- What is asked of carriers and of the hook, as a list, and what is done to them.
use Rattle.std.specs.Prelude.{ℕ, ℤ, ◌+◌, Bool, true, false, not, List, [], ◌∷◌, ◌++◌, map, filter, Option, None, Some}
use Rattle.knit_base.specs.declared.instr.Instr.{Instr}
use Rattle.knit_base.specs.declared.instr.Instr.TheVariants.{CarryIn, CarryOut, HookIn, HookOut, ReleaseHook, Rack, Knit, Tuck, Miss, Split}
use Rattle.knit_base.specs.declared.rule.Reason.{Reason}
use Rattle.knit_base.specs.declared.rule.Rule.{Rule}
use Rattle.knit_base.specs.declared.rule.Rule.TheVariants.{CarrierIsOut, CarrierIsIn, HookBusy, HookOther, CarrierHooked, FloatTooLong}
use Rattle.knit_base.specs.declared.yarns.CarrierNo.{CarrierNo}
use Rattle.knit_base.specs.Yarns.{mask_of}
use Rattle.face_data.specs.declared.face.Cond.{Cond}
use Rattle.face_data.specs.declared.face.Cond.TheVariants.{CarrierIn, CarrierOut, HookFree, HookIs, HookLacks, LastNear}
use Rattle.face_data.specs.declared.face.Effect.{Effect}
use Rattle.face_data.specs.declared.face.Last.{Last}
use Rattle.carrier_rules.specs.declared.conds.OfEach.{OfEach}
use Rattle.carrier_rules.specs.declared.conds.OfEach.TheVariants.{InAction, NotInAction, NotInHook}

-- the condition on one carrier
abbrev pub cond_of : OfEach → CarrierNo → Cond
cond_of InAction c = CarrierIn c
cond_of NotInAction c = CarrierOut c
cond_of NotInHook c = HookLacks c

-- the rule that is broken where it fails
abbrev pub rule_of : OfEach → Rule
rule_of InAction = CarrierIsOut
rule_of NotInAction = CarrierIsIn
rule_of NotInHook = CarrierHooked

-- the conditions on carriers, the first of which is named at this token
abbrev pub conds_of_each : OfEach → ℕ → List CarrierNo → List (Reason × Cond)
conds_of_each of_each at [] = []
conds_of_each of_each at (c ∷ cs) = (record { rule = rule_of of_each; at = at }, cond_of of_each c) ∷ conds_of_each of_each (at + 1) cs

-- a rule on the hook is named at the operation
abbrev pub hook_reason : Rule → Reason
hook_reason rule = record { rule = rule; at = 0 }

-- the conditions of the instruction that are asked before the rack, in the order of the rules
abbrev pub early_of : Instr → List (Reason × Cond)
early_of (CarryIn cs) = conds_of_each NotInAction 1 cs
early_of (CarryOut cs) = conds_of_each InAction 1 cs ++ conds_of_each NotInHook 1 cs
early_of (HookIn cs) = conds_of_each NotInAction 1 cs ++ (hook_reason HookBusy, HookFree) ∷ []
early_of (HookOut cs) = conds_of_each InAction 1 cs ++ (hook_reason HookBusy, HookFree) ∷ []
early_of (ReleaseHook cs) = (hook_reason HookOther, HookIs (mask_of cs)) ∷ []
early_of (Knit dir n cs) = conds_of_each InAction 3 cs
early_of (Tuck dir n cs) = conds_of_each InAction 3 cs
early_of (Miss dir n cs) = conds_of_each InAction 3 cs
early_of (Split dir n n2 cs) = conds_of_each InAction 4 cs
early_of instr = []

-- the last needle of each carrier, the first of which is named at this token, is at most so many numbers away
abbrev pub floats_of_each : ℕ → ℤ → ℕ → List CarrierNo → List (Reason × Cond)
floats_of_each float number at [] = []
floats_of_each float number at (c ∷ cs) = (record { rule = FloatTooLong; at = at }, LastNear c number float) ∷ floats_of_each float number (at + 1) cs

-- the conditions on floats of the loop that the instruction forms
abbrev pub floats_of : ℕ → Instr → List (Reason × Cond)
floats_of float (Knit dir n cs) = floats_of_each float n.at 3 cs
floats_of float (Tuck dir n cs) = floats_of_each float n.at 3 cs
floats_of float (Split dir n n2 cs) = floats_of_each float n.at 4 cs
floats_of float instr = []

-- the same, where there is a limit
abbrev pub float_conditions : Option ℕ → Instr → List (Reason × Cond)
float_conditions None instr = []
float_conditions (Some float) instr = floats_of float instr

-- all conditions of the instruction: those on floats come last
abbrev pub conds_of : Option ℕ → Instr → List (Reason × Cond)
conds_of limit instr = early_of instr ++ float_conditions limit instr

-- the condition is on a last needle
abbrev pub is_on_last : Cond → Bool
is_on_last (LastNear c at float) = true
is_on_last cond = false

-- those on last needles, which are asked last of all
abbrev pub floats_in : List (Reason × Cond) → List (Reason × Cond)
floats_in conds = filter (λ c. is_on_last c.1) conds

-- the others
abbrev pub early_in : List (Reason × Cond) → List (Reason × Cond)
early_in conds = filter (λ c. not (is_on_last c.1)) conds

-- the carrier with this last needle
abbrev pub carrier_last : Option ℤ → CarrierNo → Last
carrier_last at c = record { carrier = c; at = at }

-- the last needles that the instruction gives carriers
abbrev pub lasts_given : Instr → List Last
lasts_given (CarryIn cs) = map (carrier_last None) cs
lasts_given (CarryOut cs) = map (carrier_last None) cs
lasts_given (HookIn cs) = map (carrier_last None) cs
lasts_given (HookOut cs) = map (carrier_last None) cs
lasts_given (Knit dir n cs) = map (carrier_last (Some n.at)) cs
lasts_given (Tuck dir n cs) = map (carrier_last (Some n.at)) cs
lasts_given (Split dir n n2 cs) = map (carrier_last (Some n.at)) cs
lasts_given instr = []

-- the same where floats have a limit, and else none
abbrev pub lasts_of : Option ℕ → Instr → List Last
lasts_of None instr = []
lasts_of (Some float) instr = lasts_given instr

-- what the instruction does to rack, carriers and hook
abbrev pub effect_of : Instr → Effect
effect_of (CarryIn cs) = record { rack = None; came = mask_of cs; went = 0; hook = None }
effect_of (CarryOut cs) = record { rack = None; came = 0; went = mask_of cs; hook = None }
effect_of (HookIn cs) = record { rack = None; came = mask_of cs; went = 0; hook = Some (mask_of cs) }
effect_of (HookOut cs) = record { rack = None; came = 0; went = mask_of cs; hook = None }
effect_of (ReleaseHook cs) = record { rack = None; came = 0; went = 0; hook = Some 0 }
effect_of (Rack q) = record { rack = Some q; came = 0; went = 0; hook = None }
effect_of instr = record { rack = None; came = 0; went = 0; hook = None }
