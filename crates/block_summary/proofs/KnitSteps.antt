-- A knit of which not all is known: its conditions are asked first.
use Rattle.std.proofs.Common.{◌≡◌, ◌-◌, ◌<◌, ◌≤◌, ◌^◌, ℕ, Bool, List, [], ◌∷◌, ◌++◌, length, map, Option, None, Some, unwrap_or, refl, sym, ap, ◌∙◌, subst, arith}
use Rattle.std.specs.List.{Contains, flat_map, sum_by}
use Rattle.knit_base.specs.declared.instr.Instr.{Instr}
use Rattle.knit_base.specs.declared.instr.Instr.TheVariants.{Knit}
use Rattle.knit_base.specs.declared.needle.Dir.{Dir}
use Rattle.knit_base.specs.declared.needle.Needle.{Needle}
use Rattle.knit_base.specs.declared.profile.Profile.{Profile}
use Rattle.knit_base.specs.declared.rule.Fault.{Fault}
use Rattle.knit_base.specs.declared.rule.Reason.{Reason}
use Rattle.knit_base.specs.declared.rule.Rule.TheVariants.{CarrierIsOut, SliderHolds}
use Rattle.knit_base.specs.declared.yarns.CarrierNo.{CarrierNo}
use Rattle.knit_base.specs.Instr.{forming_needle}
use Rattle.knit_base.specs.Needle.{own_slider}
use Rattle.face_data.specs.declared.face.Cond.{Cond}
use Rattle.face_data.specs.declared.face.Effect.{Effect}
use Rattle.face_data.specs.declared.face.Last.{Last}
use Rattle.face_data.specs.declared.face.Ending.TheVariants.{Through}
use Rattle.face_data.specs.declared.face.Seg.{Seg}
use Rattle.face_data.specs.declared.face.Seg.TheVariants.{Entry}
use Rattle.face_data.specs.Answers.{read_answer, size_answer, size_left}
use Rattle.face_data.specs.Composition.{against_kept, next, reads}
use Rattle.face_data.specs.Conditions.{broken_unless}
use Rattle.face_data.specs.Conditions.Ask.{carrier_in, size_at_most}
use Rattle.face_data.specs.Segments.{Changed, change_at, entry_needles_of, new_of}
use Rattle.face_data.specs.Summaries.{AskedCondition, Summary, fault_raised}
use Rattle.face_data.proofs.Front.{AllHold}
use Rattle.face_data.proofs.Members.{Contains-head, Contains-tail}
use Rattle.carrier_rules.specs.declared.conds.OfEach.TheVariants.{InAction}
use Rattle.carrier_rules.specs.Carriers.{conds_of_each, early_of}
use Rattle.slider_rules.specs.Sliders.{bare_slider}
use Rattle.block_summary.specs.DraftKnowledge.{AreNearIn, HasAsked, HasAskedAll, HoldsAfter, Took, effect_in}
use Rattle.block_summary.specs.LineSummaries.{conditions_of_instr, asked_of_sizes, near_asked, plainly_asked}
use Rattle.block_summary.proofs.AskedHold.{near_after}
use Rattle.block_summary.proofs.DraftSteps.{carriers_asked, near_asked_knit, took_rest}
use Rattle.block_summary.proofs.LineSteps.{both_asked, first_stops, one_asked}

-- conditions that are known to hold are passed over
reads_past : (e : Effect) (la : List Last) (changes : List Changed) (lines : ℕ) (kept rest more : List AskedCondition) → AllHold e la changes kept rest →
    reads e la changes lines kept (rest ++ more) ≡ reads e la changes lines kept more
unfolding reads
reads_past e la changes lines kept [] more hold = refl
reads_past e la changes lines kept (c ∷ cs) more hold =
    ap (λ r. next r kept (fault_raised lines c.fault) (λ ks. reads e la changes lines ks (cs ++ more))) (hold c (Contains-head c cs))
    ∙ reads_past e la changes lines kept cs more (λ d there. hold d (Contains-tail c cs d there))

-- the carriers of a knit are known to be in action
pub carriers_known : (old : Summary) (cs : List CarrierNo) (conds : List (Reason × Cond)) → conds ≡ conds_of_each InAction 3 cs →
    ((c : CarrierNo) → Contains cs c → HoldsAfter old (carrier_in c)) → HasAskedAll old old (map plainly_asked conds) None
carriers_known old cs conds are known = subst (λ (xs : List (Reason × Cond)). HasAskedAll old old (map plainly_asked xs) None) (sym are) (record {
  rest_stays = refl;
  asked_are = λ more. reads_past (effect_in old.ending) old.lasts old.changes old.lines old.checks (map plainly_asked (conds_of_each InAction 3 cs)) more
      (carriers_asked old.checks (effect_in old.ending) old.lasts old.changes 3 cs known);
})

-- the floats of a knit are known to be short enough
floats_known : (old : Summary) (limit : Option ℕ) (dir : Dir) (n : Needle) (cs : List CarrierNo) → AreNearIn old limit n cs → HasAskedAll old old (near_asked limit (Knit dir n cs)) None
floats_known old limit dir n cs near = record {
  rest_stays = refl;
  asked_are = λ more. reads_past (effect_in old.ending) old.lasts old.changes old.lines old.checks (near_asked limit (Knit dir n cs)) more
      (near_asked_knit old.checks (effect_in old.ending) old.lasts old.changes limit dir n cs near);
}

-- what is asked of a needle that no line has changed
untouched_answer : (e : Effect) (la : List Last) (a : List Changed) (n : Needle) → change_at a n ≡ None → read_answer e la a (size_at_most (n ∷ []) 0) ≡ size_left (n ∷ []) 0
unfolding read_answer size_answer
untouched_answer e la a n none =
    ap (λ (segs : List Seg). size_answer (flat_map (λ (m : Needle). entry_needles_of segs) (n ∷ [])) (sum_by (λ (m : Needle). new_of segs) (n ∷ [])) 0)
    (ap (λ o. unwrap_or o (Entry n ∷ [])) none)

-- the slider of a knit, which no line has changed, was asked about
pub bare_asked : (old new : Summary) (n slider : Needle) (goes : Bool) (stop : Option Reason) → slider ≡ own_slider n → change_at old.changes slider ≡ None →
    Took (against_kept old.checks (size_left (slider ∷ []) 0)) old new (record { line = old.lines; reason = record { rule = SliderHolds; at = 2 } }) goes →
    stop ≡ broken_unless goes (record { rule = SliderHolds; at = 2 }) → HasAskedAll old new (asked_of_sizes (bare_slider n) ∷ []) stop
bare_asked old new n slider goes stop own none took is =
    let reason : Reason = record { rule = SliderHolds; at = 2 } in
    subst (λ s. HasAskedAll old new (asked_of_sizes (bare_slider n) ∷ []) s) (sym is)
    (one_asked old new reason (size_at_most (own_slider n ∷ []) 0) goes
    (subst (λ s. Took (against_kept old.checks (read_answer (effect_in old.ending) old.lasts old.changes (size_at_most (s ∷ []) 0))) old new (record { line = old.lines; reason = reason }) goes) own
    (subst (λ r. Took (against_kept old.checks r) old new (record { line = old.lines; reason = reason }) goes) (sym (untouched_answer (effect_in old.ending) old.lasts old.changes slider none)) took)))

-- a knit of carriers forms a loop on its needle
pub knit_forms : (instr : Instr) (dir : Dir) (n : Needle) (cs : List CarrierNo) → instr ≡ Knit dir n cs → 1 ≤ length cs → forming_needle instr ≡ Some n
knit_forms instr dir n [] is some = absurd (omega (arith, some))
knit_forms instr dir n (c ∷ cs) is some = ap forming_needle is

-- its slider was asked about, and its floats are known to be short enough
slider_and_floats : (old mid new : Summary) (all : List AskedCondition) (limit : Option ℕ) (dir : Dir) (n : Needle) (cs : List CarrierNo) (stop : Option Reason) → HasAskedAll old mid all None →
    HasAskedAll mid new (asked_of_sizes (bare_slider n) ∷ []) stop → AreNearIn old limit n cs → HasAskedAll mid new (asked_of_sizes (bare_slider n) ∷ near_asked limit (Knit dir n cs)) stop
slider_and_floats old mid new all limit dir n cs None first second near =
    let near_mid : AreNearIn mid limit n cs = near_after old mid all limit n cs first near in
    both_asked mid new new (asked_of_sizes (bare_slider n) ∷ []) (near_asked limit (Knit dir n cs)) None second
    (floats_known new limit dir n cs (near_after mid new (asked_of_sizes (bare_slider n) ∷ []) limit n cs second near_mid))
slider_and_floats old mid new all limit dir n cs (Some reason) first second near =
    first_stops mid new (asked_of_sizes (bare_slider n) ∷ []) (near_asked limit (Knit dir n cs)) reason second

-- the carriers of a knit were asked about, and then its slider, and its floats are known to be short enough
pub knit_is_asked : (profile : Profile) (dir : Dir) (n : Needle) (cs : List CarrierNo) (old mid new : Summary) (stop : Option Reason) → 1 ≤ length cs →
    HasAskedAll old mid (map plainly_asked (conds_of_each InAction 3 cs)) None → HasAskedAll mid new (asked_of_sizes (bare_slider n) ∷ []) stop →
    AreNearIn old profile.float n cs → HasAskedAll old new (conditions_of_instr profile (Knit dir n cs)) stop
knit_is_asked profile dir n [] old mid new stop some first second near = absurd (omega (arith, some))
knit_is_asked profile dir n (c ∷ cs) old mid new stop some first second near =
    both_asked old mid new (map plainly_asked (conds_of_each InAction 3 (c ∷ cs))) (asked_of_sizes (bare_slider n) ∷ near_asked profile.float (Knit dir n (c ∷ cs))) stop first
    (slider_and_floats old mid new (map plainly_asked (conds_of_each InAction 3 (c ∷ cs))) profile.float dir n (c ∷ cs) stop first second near)

-- the same of an instruction that is one
pub knit_is_all_asked : (profile : Profile) (instr : Instr) (dir : Dir) (n : Needle) (cs : List CarrierNo) (old mid new : Summary) (stop : Option Reason) → instr ≡ Knit dir n cs → 1 ≤ length cs →
    HasAskedAll old mid (map plainly_asked (early_of instr)) None → HasAskedAll mid new (asked_of_sizes (bare_slider n) ∷ []) stop → AreNearIn old profile.float n cs →
    HasAskedAll old new (conditions_of_instr profile instr) stop
knit_is_all_asked profile instr dir n cs old mid new stop is some first second near =
    subst (λ (i : Instr). HasAskedAll old new (conditions_of_instr profile i) stop) (sym is)
    (knit_is_asked profile dir n cs old mid new stop some (subst (λ (i : Instr). HasAskedAll old mid (map plainly_asked (early_of i)) None) is first) second near)

-- the lines before go through, where those with the conditions do
pub through_before : (old mid : Summary) → mid ≡ record old { checks = mid.checks } → mid.ending ≡ Through (effect_in mid.ending) → old.ending ≡ Through (effect_in old.ending)
through_before old mid rest goes = sym (ap (λ (s : Summary). s.ending) rest) ∙ goes ∙ ap (λ (s : Summary). Through (effect_in s.ending)) rest

-- and are no more
pub lines_before : (old mid : Summary) → mid ≡ record old { checks = mid.checks } → old.lines < 2 ^ 32 - 1 → mid.lines < 2 ^ 32 - 1
lines_before old mid rest few = subst (λ (s : Summary). s.lines < 2 ^ 32 - 1) (sym rest) few

-- the one carrier of a knit was asked about
pub carrier_asked : (old mid : Summary) (dir : Dir) (n : Needle) (c : CarrierNo) (goes : Bool) (stop : Option Reason) →
    HasAsked old mid (record { line = old.lines; reason = record { rule = CarrierIsOut; at = 3 } }) (carrier_in c) goes → broken_unless goes (record { rule = CarrierIsOut; at = 3 }) ≡ stop →
    HasAskedAll old mid (map plainly_asked (early_of (Knit dir n (c ∷ [])))) stop
carrier_asked old mid dir n c goes stop took is =
    subst (λ s. HasAskedAll old mid (map plainly_asked (early_of (Knit dir n (c ∷ [])))) s) is (one_asked old mid (record { rule = CarrierIsOut; at = 3 }) (carrier_in c) goes took)

-- a needle that no line changed stays so
pub still_untouched : (old mid : Summary) (fault : Fault) (c : CarrierNo) (n : Needle) (goes : Bool) → HasAsked old mid fault (carrier_in c) goes → change_at old.changes n ≡ None → change_at mid.changes n ≡ None
still_untouched old mid fault c n goes took none =
    ap (λ (s : Summary). change_at s.changes n) (took_rest (against_kept old.checks (read_answer (effect_in old.ending) old.lasts old.changes (carrier_in c))) old mid fault goes took) ∙ none
