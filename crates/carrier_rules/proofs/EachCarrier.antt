-- The conditions on a list of carriers are the rules on it.
use Rattle.std.proofs.Common.{◌≡◌, ℕ, ◌+◌, Bool, true, false, cond, not, nat_eq, nat_lt, filter, List, [], ◌∷◌, ◌++◌, Option, None, Some, position, refl, sym, ap, ◌∙◌, arith}
use Rattle.std.specs.Prelude.{ℤ}
use Rattle.std.specs.List.{position_from}
use Rattle.std.specs.Option.{option_map}
use Rattle.std.proofs.lemmas.List.{append-nil, append_assoc}
use Rattle.std.proofs.lemmas.Iterator.Adapters.{position_from-zero}
use Rattle.knit_base.specs.declared.instr.Instr.{Instr}
use Rattle.knit_base.specs.declared.instr.Instr.TheVariants.{CarryIn, CarryOut, HookIn, HookOut, ReleaseHook, Knit, Tuck, Miss, Split}
use Rattle.knit_base.specs.declared.profile.Profile.{Profile}
use Rattle.knit_base.specs.declared.rule.Reason.{Reason}
use Rattle.knit_base.specs.declared.rule.Rule.TheVariants.{HookBusy, HookOther, FloatTooLong}
use Rattle.knit_base.specs.declared.yarns.CarrierNo.{CarrierNo}
use Rattle.knit_base.proofs.Reasons.{or_else-none}
use Rattle.knit_base.specs.Reasons.{broken_if, first_broken, or_else}
use Rattle.knit_base.specs.Yarns.{contains_carrier, lacks_carrier, mask_of}
use Rattle.carriage_model.specs.Rules.{carriers_already_in, carriers_out, carriers_hooked, hook_busy, hook_other, carrier_broken, float_broken, floats_far}
use Rattle.carriage_model.specs.State.{State, is_near}
use Rattle.face_data.specs.declared.face.Cond.{Cond}
use Rattle.face_data.specs.declared.face.Cond.TheVariants.{HookFree, HookIs, LastNear}
use Rattle.face_data.specs.Conditions.{ask_of, holds, broken_unless, first_unmet}
use Rattle.face_data.proofs.Conditions.{broken-unless, first_unmet-append}
use Rattle.carrier_rules.specs.declared.conds.OfEach.{OfEach}
use Rattle.carrier_rules.specs.declared.conds.OfEach.TheVariants.{InAction, NotInAction, NotInHook}
use Rattle.carrier_rules.specs.Carriers.{cond_of, rule_of, conds_of_each, conds_of, early_in, early_of, float_conditions, floats_in, floats_of, floats_of_each, hook_reason, is_on_last}

-- whether what is asked fails of this carrier
abbrev fails : OfEach → State → CarrierNo → Bool
fails InAction s c = lacks_carrier s.ins c
fails NotInAction s c = contains_carrier s.ins c
fails NotInHook s c = contains_carrier s.hook c

unless-twice : (b : Bool) (reason : Reason) → broken_unless (not b) reason ≡ cond b (Some reason) None
unless-twice true reason = refl
unless-twice false reason = refl

unless-lacks : (b : Bool) (reason : Reason) → broken_unless b reason ≡ cond (not b) (Some reason) None
unless-lacks true reason = refl
unless-lacks false reason = refl

unmet-here : (of_each : OfEach) (s : State) (c : CarrierNo) (reason : Reason) → broken_unless (holds (ask_of [] (cond_of of_each c)) s) reason ≡ cond (fails of_each s c) (Some reason) None
unmet-here InAction s c reason = unless-lacks (contains_carrier s.ins c) reason
unmet-here NotInAction s c reason = unless-twice (contains_carrier s.ins c) reason
unmet-here NotInHook s c reason = unless-twice (contains_carrier s.hook c) reason

first_here : (b : Bool) (reason : ℕ → Reason) (i : ℕ) (rest : Option ℕ) → or_else (cond b (Some (reason i)) None) (option_map reason rest) ≡ option_map reason (cond b (Some i) rest)
first_here true reason i rest = refl
first_here false reason i rest = refl

each_from : (of_each : OfEach) (s : State) (at i : ℕ) (cs : List CarrierNo)
    → first_unmet (conds_of_each of_each (at + i) cs) s ≡ option_map (λ j. record { rule = rule_of of_each; at = at + j }) (position_from (fails of_each s) i cs)
each_from of_each s at i [] = refl
each_from of_each s at i (c ∷ cs) =
    let reason : ℕ → Reason = λ j. record { rule = rule_of of_each; at = at + j } in
    let next : (at + i) + 1 ≡ at + (i + 1) = omega arith in
    let later : first_unmet (conds_of_each of_each ((at + i) + 1) cs) s ≡ option_map reason (position_from (fails of_each s) (i + 1) cs) =
    ap (λ a. first_unmet (conds_of_each of_each a cs) s) next ∙ each_from of_each s at (i + 1) cs in
    ap (λ o. or_else o (first_unmet (conds_of_each of_each ((at + i) + 1) cs) s)) (unmet-here of_each s c (reason i))
    ∙ ap (or_else (cond (fails of_each s c) (Some (reason i)) None)) later
    ∙ first_here (fails of_each s c) reason i (position_from (fails of_each s) (i + 1) cs)

-- what is asked of each carrier is a rule on the list
pub each-broken : (of_each : OfEach) (s : State) (at : ℕ) (cs : List CarrierNo) → first_broken (fails of_each s) (rule_of of_each) at cs ≡ first_unmet (conds_of_each of_each at cs) s
each-broken of_each s at cs =
    let reason : ℕ → Reason = λ j. record { rule = rule_of of_each; at = at + j } in
    let start : at + 0 ≡ at = omega arith in
    let found : option_map reason (position (fails of_each s) cs) ≡ option_map reason (position_from (fails of_each s) 0 cs) =
    ap (option_map reason) (position_from-zero (fails of_each s) cs) in
    found ∙ sym (each_from of_each s at 0 cs) ∙ ap (λ a. first_unmet (conds_of_each of_each a cs) s) start

hook_test : (hook : ℕ) → nat_lt 0 hook ≡ not (nat_eq hook 0)
hook_test hook = grind arith

-- the hook is free, as one condition
pub busy-unmet : (s : State) → hook_busy s ≡ first_unmet ((hook_reason HookBusy, HookFree) ∷ []) s
busy-unmet s =
    let reason : Reason = hook_reason HookBusy in
    ap (λ b. broken_if b HookBusy 0) (hook_test s.hook) ∙ broken-unless (nat_eq s.hook 0) HookBusy 0 ∙ sym (or_else-none (broken_unless (nat_eq s.hook 0) reason))

-- the hook holds these yarns, as one condition
pub other-unmet : (s : State) (cs : List CarrierNo) → hook_other s cs ≡ first_unmet ((hook_reason HookOther, HookIs (mask_of cs)) ∷ []) s
other-unmet s cs =
    broken-unless (nat_eq s.hook (mask_of cs)) HookOther 0 ∙ sym (or_else-none (broken_unless (nat_eq s.hook (mask_of cs)) (hook_reason HookOther)))

-- two lists of conditions are two rules, one after the other
pub both-broken : (cs ds : List (Reason × Cond)) (s : State) (first second : Option Reason) → first ≡ first_unmet cs s → second ≡ first_unmet ds s → or_else first second ≡ first_unmet (cs ++ ds) s
both-broken cs ds s first second one two =
    ap (λ o. or_else o second) one ∙ ap (or_else (first_unmet cs s)) two ∙ sym (first_unmet-append cs ds s)

-- the first rule that the instruction breaks is the first condition that isn't met
pub conds-broken : (instr : Instr) (s : State) → carrier_broken instr s ≡ first_unmet (early_of instr) s
conds-broken (CarryIn cs) s = each-broken NotInAction s 1 cs
conds-broken (CarryOut cs) s = both-broken (conds_of_each InAction 1 cs) (conds_of_each NotInHook 1 cs) s (carriers_out s 1 cs) (carriers_hooked s 1 cs) (each-broken InAction s 1 cs) (each-broken NotInHook s 1 cs)
conds-broken (HookIn cs) s = both-broken (conds_of_each NotInAction 1 cs) ((hook_reason HookBusy, HookFree) ∷ []) s (carriers_already_in s 1 cs) (hook_busy s) (each-broken NotInAction s 1 cs) (busy-unmet s)
conds-broken (HookOut cs) s = both-broken (conds_of_each InAction 1 cs) ((hook_reason HookBusy, HookFree) ∷ []) s (carriers_out s 1 cs) (hook_busy s) (each-broken InAction s 1 cs) (busy-unmet s)
conds-broken (ReleaseHook cs) s = other-unmet s cs
conds-broken (Knit dir n cs) s = each-broken InAction s 3 cs
conds-broken (Tuck dir n cs) s = each-broken InAction s 3 cs
conds-broken (Miss dir n cs) s = each-broken InAction s 3 cs
conds-broken (Split dir n n2 cs) s = each-broken InAction s 4 cs
conds-broken instr s = refl

-- whether the carrier's float to a loop on this number is too long
abbrev is_far : ℕ → ℤ → State → CarrierNo → Bool
is_far float number s c = not (is_near float (s.lasts c) number)

floats_from : (float : ℕ) (number : ℤ) (s : State) (at i : ℕ) (cs : List CarrierNo)
    → first_unmet (floats_of_each float number (at + i) cs) s ≡ option_map (λ j. record { rule = FloatTooLong; at = at + j }) (position_from (is_far float number s) i cs)
floats_from float number s at i [] = refl
floats_from float number s at i (c ∷ cs) =
    let reason : ℕ → Reason = λ j. record { rule = FloatTooLong; at = at + j } in
    let next : (at + i) + 1 ≡ at + (i + 1) = omega arith in
    let later : first_unmet (floats_of_each float number ((at + i) + 1) cs) s ≡ option_map reason (position_from (is_far float number s) (i + 1) cs) =
    ap (λ a. first_unmet (floats_of_each float number a cs) s) next ∙ floats_from float number s at (i + 1) cs in
    ap (λ o. or_else o (first_unmet (floats_of_each float number ((at + i) + 1) cs) s)) (unless-lacks (is_near float (s.lasts c) number) (reason i))
    ∙ ap (or_else (cond (is_far float number s c) (Some (reason i)) None)) later
    ∙ first_here (is_far float number s c) reason i (position_from (is_far float number s) (i + 1) cs)

-- what is asked of each carrier's last needle is the rule on the floats of the list
each-far : (float : ℕ) (number : ℤ) (s : State) (at : ℕ) (cs : List CarrierNo) → first_broken (is_far float number s) FloatTooLong at cs ≡ first_unmet (floats_of_each float number at cs) s
each-far float number s at cs =
    let reason : ℕ → Reason = λ j. record { rule = FloatTooLong; at = at + j } in
    let start : at + 0 ≡ at = omega arith in
    ap (option_map reason) (position_from-zero (is_far float number s) cs) ∙ sym (floats_from float number s at 0 cs)
    ∙ ap (λ a. first_unmet (floats_of_each float number a cs) s) start

-- the float that is too long is the first condition on floats that isn't met
floats-limit : (profile : Profile) (limit : Option ℕ) (instr : Instr) (s : State) → float_broken (record profile { float = limit }) instr s ≡ first_unmet (float_conditions limit instr) s
floats-limit profile None (Knit dir n cs) s = refl
floats-limit profile None (Tuck dir n cs) s = refl
floats-limit profile None (Split dir n n2 cs) s = refl
floats-limit profile None instr s = refl
floats-limit profile (Some float) (Knit dir n cs) s = each-far float n.at s 3 cs
floats-limit profile (Some float) (Tuck dir n cs) s = each-far float n.at s 3 cs
floats-limit profile (Some float) (Split dir n n2 cs) s = each-far float n.at s 4 cs
floats-limit profile (Some float) instr s = refl

pub floats-broken : (profile : Profile) (instr : Instr) (s : State) → float_broken profile instr s ≡ first_unmet (float_conditions profile.float instr) s
floats-broken profile instr s = floats-limit profile profile.float instr s

-- which conditions are on last needles

not-last : (of_each : OfEach) (c : CarrierNo) → is_on_last (cond_of of_each c) ≡ false
not-last InAction c = refl
not-last NotInAction c = refl
not-last NotInHook c = refl

early-each : (of_each : OfEach) (at : ℕ) (cs : List CarrierNo) (more : List (Reason × Cond)) → early_in (conds_of_each of_each at cs ++ more) ≡ conds_of_each of_each at cs ++ early_in more
early-each of_each at [] more = refl
early-each of_each at (c ∷ cs) more = rw (not-last of_each c) (ap (λ rest. (record { rule = rule_of of_each; at = at }, cond_of of_each c) ∷ rest) (early-each of_each (at + 1) cs more))

floats-each : (of_each : OfEach) (at : ℕ) (cs : List CarrierNo) (more : List (Reason × Cond)) → floats_in (conds_of_each of_each at cs ++ more) ≡ floats_in more
floats-each of_each at [] more = refl
floats-each of_each at (c ∷ cs) more = rw (not-last of_each c) (floats-each of_each (at + 1) cs more)

early-far : (float : ℕ) (number : ℤ) (at : ℕ) (cs : List CarrierNo) → early_in (floats_of_each float number at cs) ≡ []
early-far float number at [] = refl
early-far float number at (c ∷ cs) = early-far float number (at + 1) cs

floats-far : (float : ℕ) (number : ℤ) (at : ℕ) (cs : List CarrierNo) → floats_in (floats_of_each float number at cs) ≡ floats_of_each float number at cs
floats-far float number at [] = refl
floats-far float number at (c ∷ cs) = ap (λ rest. (record { rule = FloatTooLong; at = at }, LastNear c number float) ∷ rest) (floats-far float number (at + 1) cs)

early-floats : (limit : Option ℕ) (instr : Instr) → early_in (float_conditions limit instr) ≡ []
early-floats None instr = refl
early-floats (Some float) (Knit dir n cs) = early-far float n.at 3 cs
early-floats (Some float) (Tuck dir n cs) = early-far float n.at 3 cs
early-floats (Some float) (Split dir n n2 cs) = early-far float n.at 4 cs
early-floats (Some float) instr = refl

floats-floats : (limit : Option ℕ) (instr : Instr) → floats_in (float_conditions limit instr) ≡ float_conditions limit instr
floats-floats None instr = refl
floats-floats (Some float) (Knit dir n cs) = floats-far float n.at 3 cs
floats-floats (Some float) (Tuck dir n cs) = floats-far float n.at 3 cs
floats-floats (Some float) (Split dir n n2 cs) = floats-far float n.at 4 cs
floats-floats (Some float) instr = refl

-- none that is asked early is on a last needle
early-front : (instr : Instr) (more : List (Reason × Cond)) → early_in (early_of instr ++ more) ≡ early_of instr ++ early_in more
early-front (CarryIn cs) more = early-each NotInAction 1 cs more
early-front (CarryOut cs) more =
    ap early_in (append_assoc (conds_of_each InAction 1 cs) (conds_of_each NotInHook 1 cs) more)
    ∙ early-each InAction 1 cs (conds_of_each NotInHook 1 cs ++ more)
    ∙ ap (λ rest. conds_of_each InAction 1 cs ++ rest) (early-each NotInHook 1 cs more)
    ∙ sym (append_assoc (conds_of_each InAction 1 cs) (conds_of_each NotInHook 1 cs) (early_in more))
early-front (HookIn cs) more =
    ap early_in (append_assoc (conds_of_each NotInAction 1 cs) ((hook_reason HookBusy, HookFree) ∷ []) more)
    ∙ early-each NotInAction 1 cs ((hook_reason HookBusy, HookFree) ∷ more)
    ∙ sym (append_assoc (conds_of_each NotInAction 1 cs) ((hook_reason HookBusy, HookFree) ∷ []) (early_in more))
early-front (HookOut cs) more =
    ap early_in (append_assoc (conds_of_each InAction 1 cs) ((hook_reason HookBusy, HookFree) ∷ []) more)
    ∙ early-each InAction 1 cs ((hook_reason HookBusy, HookFree) ∷ more)
    ∙ sym (append_assoc (conds_of_each InAction 1 cs) ((hook_reason HookBusy, HookFree) ∷ []) (early_in more))
early-front (ReleaseHook cs) more = refl
early-front (Knit dir n cs) more = early-each InAction 3 cs more
early-front (Tuck dir n cs) more = early-each InAction 3 cs more
early-front (Miss dir n cs) more = early-each InAction 3 cs more
early-front (Split dir n n2 cs) more = early-each InAction 4 cs more
early-front instr more = refl

floats-front : (instr : Instr) (more : List (Reason × Cond)) → floats_in (early_of instr ++ more) ≡ floats_in more
floats-front (CarryIn cs) more = floats-each NotInAction 1 cs more
floats-front (CarryOut cs) more =
    ap floats_in (append_assoc (conds_of_each InAction 1 cs) (conds_of_each NotInHook 1 cs) more)
    ∙ floats-each InAction 1 cs (conds_of_each NotInHook 1 cs ++ more) ∙ floats-each NotInHook 1 cs more
floats-front (HookIn cs) more =
    ap floats_in (append_assoc (conds_of_each NotInAction 1 cs) ((hook_reason HookBusy, HookFree) ∷ []) more)
    ∙ floats-each NotInAction 1 cs ((hook_reason HookBusy, HookFree) ∷ more)
floats-front (HookOut cs) more =
    ap floats_in (append_assoc (conds_of_each InAction 1 cs) ((hook_reason HookBusy, HookFree) ∷ []) more)
    ∙ floats-each InAction 1 cs ((hook_reason HookBusy, HookFree) ∷ more)
floats-front (ReleaseHook cs) more = refl
floats-front (Knit dir n cs) more = floats-each InAction 3 cs more
floats-front (Tuck dir n cs) more = floats-each InAction 3 cs more
floats-front (Miss dir n cs) more = floats-each InAction 3 cs more
floats-front (Split dir n n2 cs) more = floats-each InAction 4 cs more
floats-front instr more = refl

-- the conditions that are asked early, and those on floats
pub early-is : (limit : Option ℕ) (instr : Instr) → early_in (conds_of limit instr) ≡ early_of instr
early-is limit instr = early-front instr (float_conditions limit instr) ∙ ap (λ rest. early_of instr ++ rest) (early-floats limit instr) ∙ append-nil (early_of instr)

pub floats-is : (limit : Option ℕ) (instr : Instr) → floats_in (conds_of limit instr) ≡ float_conditions limit instr
floats-is limit instr = floats-front instr (float_conditions limit instr) ∙ floats-floats limit instr
