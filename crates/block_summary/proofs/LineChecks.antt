-- What a line asks fits, and lies where its changes leave it.
use Rattle.std.proofs.Common.{◌≡◌, ℕ, ◌+◌, ◌<◌, ◌^◌, true, false, List, [], ◌∷◌, ◌++◌, map, All, Option, None, Some, IfSome, refl, sym, ap, ◌∙◌, subst, arith, inl, inr, ◌⊎◌}
use Rattle.std.specs.Prelude.{ℤ, is_some, pos, unwrap_or}
use Rattle.std.specs.Option.{option_map, option_to_list}
use Rattle.std.specs.List.{Contains}
use Rattle.std.proofs.lemmas.List.{map-append}
use Rattle.std.proofs.lemmas.List.Elements.{All-head, All-tail, Contains-append_cases}
use Rattle.std.proofs.lemmas.Bool.{true≢false}
use Rattle.std.proofs.lemmas.Nat.{pow_pos}
use Rattle.knit_base.specs.declared.instr.Instr.{Instr}
use Rattle.knit_base.specs.declared.instr.Instr.TheVariants.{CarryIn, CarryOut, HookIn, HookOut, ReleaseHook, Knit, Tuck, Miss, Split, Xfer}
use Rattle.knit_base.specs.declared.instr.Quarter.{Quarter}
use Rattle.knit_base.specs.declared.needle.Needle.{Needle}
use Rattle.knit_base.specs.declared.profile.Profile.{Profile}
use Rattle.knit_base.specs.declared.rule.Reason.{Reason}
use Rattle.knit_base.specs.declared.rule.Rule.{Rule}
use Rattle.knit_base.specs.declared.rule.Rule.TheVariants.{NotAligned, HookBusy, HookOther, FloatTooLong}
use Rattle.knit_base.specs.declared.yarns.CarrierNo.{CarrierNo}
use Rattle.knit_base.specs.Lawful.{IsLawfulInstr, AreOpposite}
use Rattle.knit_base.specs.Needle.{own_slider, is_front, is_slider, rack_facing}
use Rattle.knit_base.specs.Yarns.{contains_carrier, mask_of}
use Rattle.face_data.specs.declared.face.Cond.{Cond}
use Rattle.face_data.specs.declared.face.Cond.TheVariants.{HookFree}
use Rattle.face_data.specs.declared.face.Effect.{Effect}
use Rattle.face_data.specs.Conditions.{Ask, ask_of}
use Rattle.face_data.specs.Conditions.Ask.{rack_is, hook_free, hook_is, last_near}
use Rattle.face_data.specs.declared.face.Last.{Last}
use Rattle.face_data.specs.Goodness.{AgreeOnLast, AskFits, IsSet, NeedlesLieIn, NeverFalls, size_needles_in}
use Rattle.face_data.specs.Lasts.{last_at, lasts_of_both}
use Rattle.knit_base.specs.Instr.{forming_needle}
use Rattle.face_data.specs.Segments.{Changed}
use Rattle.face_data.specs.Sets.{AreNeedlesWithin, NestedOrApart}
use Rattle.face_data.specs.Sizes.{SizeRule}
use Rattle.face_data.specs.Summaries.{AskedCondition}
use Rattle.face_data.proofs.Members.{Contains-none, Contains-head, Contains-tail, Contains-cons_cases}
use Rattle.carrier_rules.specs.declared.conds.OfEach.{OfEach}
use Rattle.carrier_rules.specs.declared.conds.OfEach.TheVariants.{InAction, NotInAction, NotInHook}
use Rattle.bed_rules.specs.Beds.{size_rules}
use Rattle.carrier_rules.specs.Carriers.{cond_of, rule_of, conds_of_each, early_of, effect_of, floats_of_each, hook_reason, carrier_last, lasts_of}
use Rattle.rack_align.specs.Moves.{rack_ask}
use Rattle.slider_rules.specs.Sliders.{bare_slider}
use Rattle.block_summary.specs.LineSummaries.{asked_for, plainly_asked, asked_of_rack, asked_of_sizes, rack_asked, slider_asked, sizes_asked, near_asked, conditions_of_instr}
use Rattle.block_summary.proofs.LineLasts.{set_put}
use Rattle.face_data.proofs.Goodness.{NestedOrApart-comm}
use Rattle.knit_base.proofs.Masks.{mask_of-below, contains_carrier-none}
use Rattle.knit_base.proofs.Needles.{slider_bed-is_slider, slider_bed-is_front}

-- the condition for the rule that is named at this token
abbrev pub rule_asked : Rule → ℕ → Ask → AskedCondition
rule_asked rule at ask = asked_for (record { rule = rule; at = at }) ask

-- the needles of a condition are one of two lists, or none
abbrev pub NamesAre : List Needle → List Needle → List Needle → Type 0
NamesAre first second names = (names ≡ []) ⊎ ((names ≡ first) ⊎ (names ≡ second))

nothing_within : (xs ys : List Needle) → xs ≡ [] → AreNeedlesWithin xs ys
nothing_within xs ys none n there = absurd (Contains-none n (subst (λ zs. Contains zs n) none there))

same_within : (xs ys : List Needle) → xs ≡ ys → AreNeedlesWithin xs ys
same_within xs ys same n there = subst (λ zs. Contains zs n) same there

nested_from : (first second xs ys : List Needle) → NestedOrApart first second → xs ≡ first → ys ≡ second → NestedOrApart xs ys
nested_from first second xs ys nested is also = subst (λ zs. NestedOrApart zs ys) (sym is) (subst (NestedOrApart first) (sym also) nested)

-- any two such lists are nested or apart
pub nested_among : (first second xs ys : List Needle) → NestedOrApart first second → NamesAre first second xs → NamesAre first second ys → NestedOrApart xs ys
nested_among first second xs ys nested (inl none) other = inl (nothing_within xs ys none)
nested_among first second xs ys nested (inr one) (inl none) = inr (inl (nothing_within ys xs none))
nested_among first second xs ys nested (inr (inl one)) (inr (inl two)) = inl (same_within xs ys (one ∙ sym two))
nested_among first second xs ys nested (inr (inl one)) (inr (inr two)) = nested_from first second xs ys nested one two
nested_among first second xs ys nested (inr (inr one)) (inr (inl two)) = NestedOrApart-comm ys xs (nested_from first second ys xs nested two one)
nested_among first second xs ys nested (inr (inr one)) (inr (inr two)) = inl (same_within xs ys (one ∙ sym two))

-- each condition of the list is so
abbrev pub Each : (AskedCondition → Type 0) → List AskedCondition → Type 0
Each P checks = (c : AskedCondition) → Contains checks c → P c

-- no condition
pub each_none : (P : AskedCondition → Type 0) → Each P []
each_none P c there = absurd (Contains-none c there)

each_more : (P : AskedCondition → Type 0) (c : AskedCondition) (cs : List AskedCondition) → P c → Each P cs → Each P (c ∷ cs)
each_more P c cs here later d there = elim (Contains-cons_cases c cs d there) [ inl same ↦ subst P same here | inr rest ↦ later d rest ]

-- one condition
pub each_one : (P : AskedCondition → Type 0) (c : AskedCondition) → P c → Each P (c ∷ [])
each_one P c here = each_more P c [] here (each_none P)

each_both : (P : AskedCondition → Type 0) (xs ys : List AskedCondition) → Each P xs → Each P ys → Each P (xs ++ ys)
each_both P xs ys first second c there = elim (Contains-append_cases xs ys c there) [ inl here ↦ first c here | inr later ↦ second c later ]

-- conditions of one line
pub never_falls : (cs : List AskedCondition) → Each (λ c. c.fault.line ≡ 0) cs → NeverFalls cs
never_falls [] each = tt
never_falls (c ∷ cs) each = (
  (λ d there. let here : c.fault.line ≡ 0 = each c (Contains-head c cs) in omega arith),
  never_falls cs (λ d there. each d (Contains-tail c cs d there)),
)

-- What a condition of the line is: of the line, fitting, with needles of two lists, which lie in what one needle holds at the end.
pub record CheckIs (carriers hold : ℕ) (known first second : List Needle) (changes : List Changed) (c : AskedCondition) : Type 0 where
  pub line : c.fault.line ≡ 0
  pub fits : AskFits carriers hold known c.ask
  pub names : NamesAre first second (size_needles_in c.ask)
  pub lies : NeedlesLieIn changes (size_needles_in c.ask)

-- a condition that isn't on sizes
plain_is : (carriers hold : ℕ) (known first second : List Needle) (changes : List Changed) (reason : Reason) (q : Ask) → AskFits carriers hold known q →
    size_needles_in q ≡ [] → CheckIs carriers hold known first second changes (asked_for reason q)
plain_is carriers hold known first second changes reason q fits none = record {
  line = refl;
  fits = fits;
  names = inl none;
  lies = inr (λ m n there held. Contains-none n (subst (λ xs. Contains xs n) none there));
}

carrier_fits : (carriers hold : ℕ) (known : List Needle) (of_each : OfEach) (c : CarrierNo) → c.0 < carriers → AskFits carriers hold known (ask_of [] (cond_of of_each c))
carrier_fits carriers hold known InAction c below = below
carrier_fits carriers hold known NotInAction c below = below
carrier_fits carriers hold known NotInHook c below = below

carrier_names : (of_each : OfEach) (c : CarrierNo) → size_needles_in (ask_of [] (cond_of of_each c)) ≡ []
carrier_names InAction c = refl
carrier_names NotInAction c = refl
carrier_names NotInHook c = refl

-- what the effect of a line does
pub record EffectFits (carriers : ℕ) (effect : Effect) : Type 0 where
  pub apart : (c : CarrierNo) → contains_carrier effect.came c ≡ true → contains_carrier effect.went c ≡ false
  pub came : effect.came < 2 ^ carriers
  pub went : effect.went < 2 ^ carriers
  pub hook : IfSome effect.hook (λ set. set < 2 ^ carriers)

none_came : (c : CarrierNo) (set : ℕ) → contains_carrier 0 c ≡ true → contains_carrier set c ≡ false
none_came c set came = absurd (true≢false (sym came ∙ contains_carrier-none c))

idle_fits : (carriers : ℕ) (effect : Effect) → effect.came ≡ 0 → effect.went ≡ 0 → IfSome effect.hook (λ set. set < 2 ^ carriers) → EffectFits carriers effect
idle_fits carriers effect none gone hook = record {
  apart = λ c came. ap (λ set. contains_carrier set c) gone ∙ contains_carrier-none c;
  came = omega (arith, none, pow_pos carriers);
  went = omega (arith, gone, pow_pos carriers);
  hook = hook;
}

-- what a lawful instruction does to carriers and hook
pub effect_fits : (profile : Profile) (carriers : ℕ) (instr : Instr) → IsLawfulInstr profile carriers instr → EffectFits carriers (effect_of instr)
effect_fits profile carriers (CarryIn cs) lawful = record {
  apart = λ c came. contains_carrier-none c;
  came = mask_of-below carriers cs lawful.carriers.each;
  went = pow_pos carriers;
  hook = tt;
}
effect_fits profile carriers (CarryOut cs) lawful = record {
  apart = λ c came. none_came c (mask_of cs) came;
  came = pow_pos carriers;
  went = mask_of-below carriers cs lawful.carriers.each;
  hook = tt;
}
effect_fits profile carriers (HookIn cs) lawful = record {
  apart = λ c came. contains_carrier-none c;
  came = mask_of-below carriers cs lawful.carriers.each;
  went = pow_pos carriers;
  hook = mask_of-below carriers cs lawful.carriers.each;
}
effect_fits profile carriers (HookOut cs) lawful = record {
  apart = λ c came. none_came c (mask_of cs) came;
  came = pow_pos carriers;
  went = mask_of-below carriers cs lawful.carriers.each;
  hook = tt;
}
effect_fits profile carriers (ReleaseHook cs) lawful = idle_fits carriers _ refl refl (pow_pos carriers)
effect_fits profile carriers instr lawful = idle_fits carriers _ refl refl tt

module _ (carriers hold : ℕ) (known first second : List Needle) (changes : List Changed) where
  abbrev Is : AskedCondition → Type 0
  Is = CheckIs carriers hold known first second changes

  each_carrier : (of_each : OfEach) (at : ℕ) (cs : List CarrierNo) → All (λ c. c.0 < carriers) cs → Each Is (map plainly_asked (conds_of_each of_each at cs))
  each_carrier of_each at [] all = each_none Is
  each_carrier of_each at (c ∷ cs) all =
      each_more Is (plainly_asked (record { rule = rule_of of_each; at = at }, cond_of of_each c)) (map plainly_asked (conds_of_each of_each (at + 1) cs))
      (plain_is carriers hold known first second changes (record { rule = rule_of of_each; at = at }) (ask_of [] (cond_of of_each c))
      (carrier_fits carriers hold known of_each c (All-head (λ d. d.0 < carriers) c cs all)) (carrier_names of_each c))
      (each_carrier of_each (at + 1) cs (All-tail (λ d. d.0 < carriers) c cs all))

  two_lists : (xs ys : List (Reason × Cond)) → Each Is (map plainly_asked xs) → Each Is (map plainly_asked ys) → Each Is (map plainly_asked (xs ++ ys))
  two_lists xs ys one two = subst (Each Is) (sym (map-append plainly_asked xs ys)) (each_both Is (map plainly_asked xs) (map plainly_asked ys) one two)

  free_hook : Each Is (map plainly_asked ((hook_reason HookBusy, HookFree) ∷ []))
  free_hook = each_one Is _ (plain_is carriers hold known first second changes (hook_reason HookBusy) hook_free tt refl)

  -- the conditions on carriers and the hook
  pub conds_fit : (profile : Profile) (instr : Instr) → IsLawfulInstr profile carriers instr → Each Is (map plainly_asked (early_of instr))
  conds_fit profile (CarryIn cs) lawful = each_carrier NotInAction 1 cs lawful.carriers.each
  conds_fit profile (CarryOut cs) lawful =
      two_lists (conds_of_each InAction 1 cs) (conds_of_each NotInHook 1 cs) (each_carrier InAction 1 cs lawful.carriers.each) (each_carrier NotInHook 1 cs lawful.carriers.each)
  conds_fit profile (HookIn cs) lawful = two_lists (conds_of_each NotInAction 1 cs) ((hook_reason HookBusy, HookFree) ∷ []) (each_carrier NotInAction 1 cs lawful.carriers.each) free_hook
  conds_fit profile (HookOut cs) lawful = two_lists (conds_of_each InAction 1 cs) ((hook_reason HookBusy, HookFree) ∷ []) (each_carrier InAction 1 cs lawful.carriers.each) free_hook
  conds_fit profile (ReleaseHook cs) lawful =
      each_one Is _ (plain_is carriers hold known first second changes (hook_reason HookOther) (hook_is (mask_of cs)) (mask_of-below carriers cs lawful.carriers.each) refl)
  conds_fit profile (Knit dir n cs) lawful = each_carrier InAction 3 cs lawful.carriers.each
  conds_fit profile (Tuck dir n cs) lawful = each_carrier InAction 3 cs lawful.carriers.each
  conds_fit profile (Miss dir n cs) lawful = each_carrier InAction 3 cs lawful.carriers.each
  conds_fit profile (Split dir n n2 cs) lawful = each_carrier InAction 4 cs lawful.carriers.each
  conds_fit profile instr lawful = each_none Is

  rack_fits : (instr : Instr) → Each Is (rack_asked instr)
  rack_fits (Split dir n n2 cs) = each_one Is _ (plain_is carriers hold known first second changes (record { rule = NotAligned; at = 3 }) (rack_is (rack_facing n n2)) tt refl)
  rack_fits (Xfer n n2) = each_one Is _ (plain_is carriers hold known first second changes (record { rule = NotAligned; at = 2 }) (rack_is (rack_facing n n2)) tt refl)
  rack_fits instr = each_none Is

  each_float : (float : ℕ) (number : ℤ) (at : ℕ) (cs : List CarrierNo) → All (λ c. c.0 < carriers) cs → Each Is (map plainly_asked (floats_of_each float number at cs))
  each_float float number at [] all = each_none Is
  each_float float number at (c ∷ cs) all =
      each_more Is _ (map plainly_asked (floats_of_each float number (at + 1) cs))
      (plain_is carriers hold known first second changes (record { rule = FloatTooLong; at = at }) (last_near c number float) (All-head (λ d. d.0 < carriers) c cs all) refl)
      (each_float float number (at + 1) cs (All-tail (λ d. d.0 < carriers) c cs all))

  -- those on floats
  floats_fit : (profile : Profile) (limit : Option ℕ) (instr : Instr) → IsLawfulInstr profile carriers instr → Each Is (near_asked limit instr)
  floats_fit profile None instr lawful = each_none Is
  floats_fit profile (Some float) (Knit dir n cs) lawful = each_float float n.at 3 cs lawful.carriers.each
  floats_fit profile (Some float) (Tuck dir n cs) lawful = each_float float n.at 3 cs lawful.carriers.each
  floats_fit profile (Some float) (Split dir n n2 cs) lawful = each_float float n.at 4 cs lawful.carriers.each
  floats_fit profile (Some float) instr lawful = each_none Is

-- a part of the line's conditions, and those before and behind it
pub each_asked : (P : AskedCondition → Type 0) (profile : Profile) (instr : Instr) → Each P (map plainly_asked (early_of instr)) → Each P (rack_asked instr) → Each P (slider_asked (forming_needle instr)) →
    Each P (sizes_asked profile.hold instr) → Each P (near_asked profile.float instr) → Each P (conditions_of_instr profile instr)
each_asked P profile instr early rack slider sizes near =
    let on = slider_asked (forming_needle instr) in
    let last = sizes_asked profile.hold instr ++ near_asked profile.float instr in
    each_both P (map plainly_asked (early_of instr)) (rack_asked instr ++ (on ++ last)) early
    (each_both P (rack_asked instr) (on ++ last) rack
    (each_both P on last slider (each_both P (sizes_asked profile.hold instr) (near_asked profile.float instr) sizes near)))

-- all conditions of the line, where those on sizes are so
pub checks_fit : (profile : Profile) (carriers : ℕ) (known first second : List Needle) (changes : List Changed) (instr : Instr) → IsLawfulInstr profile carriers instr →
    Each (CheckIs carriers profile.hold known first second changes) (slider_asked (forming_needle instr)) →
    Each (CheckIs carriers profile.hold known first second changes) (sizes_asked profile.hold instr) →
    Each (CheckIs carriers profile.hold known first second changes) (conditions_of_instr profile instr)
checks_fit profile carriers known first second changes instr lawful slider sizes =
    each_asked (CheckIs carriers profile.hold known first second changes) profile instr (conds_fit carriers profile.hold known first second changes profile instr lawful)
    (rack_fits carriers profile.hold known first second changes instr) slider sizes (floats_fit carriers profile.hold known first second changes profile profile.float instr lawful)

-- The condition, if it is on a last needle, is on the float to this number, with this limit, and its carrier's last needle is set.
abbrev pub FloatIs : ℤ → ℕ → List Last → Ask → Type 0
FloatIs number float lasts (last_near c at limit) = ((at ≡ number) × (limit ≡ float)) × (is_some (last_at lasts c) ≡ true)
FloatIs number float lasts q = Unit {0}

-- which number that is
abbrev pub float_number : Instr → ℤ
float_number (Knit dir n cs) = n.at
float_number (Tuck dir n cs) = n.at
float_number (Split dir n n2 cs) = n.at
float_number instr = pos 0

module _ (number : ℤ) (float : ℕ) (lasts : List Last) where
  abbrev IsFloat : AskedCondition → Type 0
  IsFloat c = FloatIs number float lasts c.ask

  pub float_set : (q : Ask) → FloatIs number float lasts q → IsSet lasts q
  float_set (last_near c at limit) is = is.1
  float_set q is = tt

  pub floats_agree : (p q : Ask) → FloatIs number float lasts p → FloatIs number float lasts q → AgreeOnLast p q
  floats_agree (last_near c at limit) (last_near d other most) is also = λ same. (is.0.0 ∙ sym also.0.0, is.0.1 ∙ sym also.0.1)
  floats_agree p q is also = tt

  no_float : (of_each : OfEach) (c : CarrierNo) → FloatIs number float lasts (ask_of [] (cond_of of_each c))
  no_float InAction c = tt
  no_float NotInAction c = tt
  no_float NotInHook c = tt

  carriers_float : (of_each : OfEach) (at : ℕ) (cs : List CarrierNo) → Each IsFloat (map plainly_asked (conds_of_each of_each at cs))
  carriers_float of_each at [] = each_none IsFloat
  carriers_float of_each at (c ∷ cs) =
      each_more IsFloat (plainly_asked (record { rule = rule_of of_each; at = at }, cond_of of_each c)) (map plainly_asked (conds_of_each of_each (at + 1) cs)) (no_float of_each c)
      (carriers_float of_each (at + 1) cs)

  both_float : (xs ys : List (Reason × Cond)) → Each IsFloat (map plainly_asked xs) → Each IsFloat (map plainly_asked ys) → Each IsFloat (map plainly_asked (xs ++ ys))
  both_float xs ys one two = subst (Each IsFloat) (sym (map-append plainly_asked xs ys)) (each_both IsFloat (map plainly_asked xs) (map plainly_asked ys) one two)

  early_float : (instr : Instr) → Each IsFloat (map plainly_asked (early_of instr))
  early_float (CarryIn cs) = carriers_float NotInAction 1 cs
  early_float (CarryOut cs) = both_float (conds_of_each InAction 1 cs) (conds_of_each NotInHook 1 cs) (carriers_float InAction 1 cs) (carriers_float NotInHook 1 cs)
  early_float (HookIn cs) = both_float (conds_of_each NotInAction 1 cs) ((hook_reason HookBusy, HookFree) ∷ []) (carriers_float NotInAction 1 cs) (each_one IsFloat _ tt)
  early_float (HookOut cs) = both_float (conds_of_each InAction 1 cs) ((hook_reason HookBusy, HookFree) ∷ []) (carriers_float InAction 1 cs) (each_one IsFloat _ tt)
  early_float (ReleaseHook cs) = each_one IsFloat _ tt
  early_float (Knit dir n cs) = carriers_float InAction 3 cs
  early_float (Tuck dir n cs) = carriers_float InAction 3 cs
  early_float (Miss dir n cs) = carriers_float InAction 3 cs
  early_float (Split dir n n2 cs) = carriers_float InAction 4 cs
  early_float instr = each_none IsFloat

  rack_float : (rack : List (Reason × Quarter)) → Each IsFloat (map asked_of_rack rack)
  rack_float [] = each_none IsFloat
  rack_float (r ∷ rs) = each_more IsFloat (asked_of_rack r) (map asked_of_rack rs) tt (rack_float rs)

  sizes_float : (rules : List SizeRule) → Each IsFloat (map asked_of_sizes rules)
  sizes_float [] = each_none IsFloat
  sizes_float (r ∷ rs) = each_more IsFloat (asked_of_sizes r) (map asked_of_sizes rs) tt (sizes_float rs)

  each_near : (at : ℕ) (cs : List CarrierNo) → ((c : CarrierNo) → Contains cs c → is_some (last_at lasts c) ≡ true) → Each IsFloat (map plainly_asked (floats_of_each float number at cs))
  each_near at [] set = each_none IsFloat
  each_near at (c ∷ cs) set =
      each_more IsFloat (asked_for (record { rule = FloatTooLong; at = at }) (last_near c number float)) (map plainly_asked (floats_of_each float number (at + 1) cs)) ((refl, refl), set c (Contains-head c cs))
      (each_near (at + 1) cs (λ d there. set d (Contains-tail c cs d there)))

near_float : (limit : Option ℕ) (instr : Instr) → Each (IsFloat (float_number instr) (unwrap_or limit 0) (lasts_of_both [] (lasts_of limit instr))) (near_asked limit instr)
near_float None instr = each_none (IsFloat (float_number instr) 0 [])
near_float (Some float) (Knit dir n cs) = each_near n.at float (lasts_of_both [] (map (carrier_last (Some n.at)) cs)) 3 cs (set_put (Some n.at) cs)
near_float (Some float) (Tuck dir n cs) = each_near n.at float (lasts_of_both [] (map (carrier_last (Some n.at)) cs)) 3 cs (set_put (Some n.at) cs)
near_float (Some float) (Split dir n n2 cs) = each_near n.at float (lasts_of_both [] (map (carrier_last (Some n.at)) cs)) 4 cs (set_put (Some n.at) cs)
near_float (Some float) instr = each_none (IsFloat (float_number instr) float (lasts_of_both [] (lasts_of (Some float) instr)))

-- All conditions of the line on last needles are on its own floats.
pub line_floats : (profile : Profile) (instr : Instr) →
    Each (λ (c : AskedCondition). FloatIs (float_number instr) (unwrap_or profile.float 0) (lasts_of_both [] (lasts_of profile.float instr)) c.ask) (conditions_of_instr profile instr)
line_floats profile instr =
    let number = float_number instr in
    let float = unwrap_or profile.float 0 in
    let lasts = lasts_of_both [] (lasts_of profile.float instr) in
    each_asked (IsFloat number float lasts) profile instr (early_float number float lasts instr) (rack_float number float lasts (option_to_list (rack_ask instr)))
    (sizes_float number float lasts (option_to_list (option_map bare_slider (forming_needle instr)))) (sizes_float number float lasts (size_rules profile.hold instr)) (near_float profile.float instr)

-- a hook isn't its own slider
pub slider_other : (n : Needle) → is_slider n.bed ≡ false → own_slider n ≡ n → ⊥
slider_other n hook same = true≢false (sym (slider_bed-is_slider n.bed) ∙ ap (λ (m : Needle). is_slider m.bed) same ∙ hook)

-- nor is a needle of the other side
pub slider_across : (n n2 : Needle) → AreOpposite n n2 → own_slider n ≡ n2 → ⊥
slider_across n n2 opposite same = opposite.sides (sym (slider_bed-is_front n.bed) ∙ ap (λ (m : Needle). is_front m.bed) same)

-- two needles of different sides are two
pub needles_across : (n n2 : Needle) → AreOpposite n n2 → n ≡ n2 → ⊥
needles_across n n2 opposite same = opposite.sides (ap (λ (m : Needle). is_front m.bed) same)
