-- What stays known while lines are read.
use Rattle.std.proofs.Common.{map, length, ◌≡◌, ◌+◌, ◌-◌, ◌≤◌, ◌^◌, ℕ, pos, ◌-ℤ◌, ◌<ℤ◌, Bool, true, false, not, ◌&&◌, ◌||◌, bit_and, bit_or, inl, inr, ◌⊎◌, arith, if◌then◌else◌, List, [], ◌∷◌, ◌++◌, Option, Some, None, unwrap_or, refl, sym, ap, ◌∙◌, subst}
use Rattle.std.specs.Int.{bit_at}
use Rattle.std.specs.List.{All, Contains, flat_map, sum_by}
use Rattle.std.specs.Prelude.{ℤ, nat_eq, Result, Ok, Err, OnOk}
use Rattle.std.proofs.lemmas.List.Elements.{All-weaker}
use Rattle.std.proofs.lemmas.Nat.Bits.{bit_at_or, bit_at_and, bit_at-lt, bit_at-pow_same}
use Rattle.knit_base.specs.declared.yarns.CarrierNo.{CarrierNo}
use Rattle.knit_base.specs.Yarns.{mask_of, contains_carrier, without_set}
use Rattle.face_data.specs.declared.digest.Digest.{Digest}
use Rattle.face_data.specs.Digests.{digest_of, effect_bearing, digest_bearing, IsPlainCondition}
use Rattle.face_data.specs.Goodness.{IsInOrder, IsIrredundant}
use Rattle.face_data.specs.Answers.ConditionAnswer.{no_it_does_not, asks}
use Rattle.face_data.specs.Composition.{from_bearing, answer_of_kept}
use Rattle.face_data.specs.Conditions.Ask.{carrier_in, last_near}
use Rattle.face_data.specs.Bearings.{if_so}
use Rattle.face_data.specs.declared.bearing.Bearing.TheVariants.{Implied, Refuted, Silent}
use Rattle.face_data.proofs.Carriers.{has-bit_or, has-without}
use Rattle.face_data.proofs.Digests.{read-plain, settled-plain}
use Rattle.face_data.proofs.KeptChecks.{against_asks}
use Rattle.face_data.specs.Bearings.{bearing}
use Rattle.face_data.specs.Conditions.{Ask}
use Rattle.face_data.specs.declared.bearing.Bearing.{Bearing}
use Rattle.face_data.proofs.Members.{Contains-none, Contains-head, Contains-tail, Contains-cons_cases}
use Rattle.knit_base.specs.declared.rule.Fault.{Fault}
use Rattle.knit_base.specs.declared.rule.Reason.{Reason}
use Rattle.std.proofs.lemmas.Bool.{true≢false, le-ltb}
use Rattle.knit_base.specs.declared.needle.Needle.{Needle}
use Rattle.knit_base.specs.declared.profile.Profile.{Profile}
use Rattle.knit_base.specs.Needle.{is_slider, own_slider, same_needle, same_needle-true}
use Rattle.face_data.specs.declared.face.Effect.{Effect}
use Rattle.face_data.specs.declared.face.Last.{Last}
use Rattle.face_data.specs.declared.face.Seg.{Seg}
use Rattle.face_data.specs.declared.face.Seg.TheVariants.{Entry, New}
use Rattle.face_data.specs.Answers.{ConditionAnswer, read_answer, size_answer, size_left}
use Rattle.face_data.specs.Answers.ConditionAnswer.{yes_it_does}
use Rattle.face_data.specs.Composition.{changes_merged, against_kept, composed, effect_of_both}
use Rattle.face_data.specs.Conditions.Ask.{size_at_most}
use Rattle.face_data.specs.Lasts.{lasts_of_both}
use Rattle.face_data.specs.Segments.{Changed, change_at, segments_on, entry_needles_of, new_of, names_through, new_through}
use Rattle.face_data.specs.Sizes.{SizeRule, size_ask}
use Rattle.face_data.specs.declared.sizes.SizeAsk.{SizeAsk}
use Rattle.face_data.proofs.Answers.{size_answer_over}
use Rattle.face_data.proofs.ChangeLists.{none_in_order}
use Rattle.std.proofs.lemmas.Int.{ints}
use Rattle.face_data.specs.Summaries.{AskedCondition, Summary}
use Rattle.face_data.proofs.Places.{change_at-put}
use Rattle.knit_base.specs.declared.instr.Instr.TheVariants.{Knit}
use Rattle.knit_base.specs.declared.instr.Read.TheVariants as read
use Rattle.knit_base.specs.declared.needle.Dir.{Dir}
use Rattle.face_data.specs.declared.face.Ending.TheVariants.{Through}
use Rattle.block_summary.specs.DraftKnowledge.{effect_in, IsConditionKnown, HoldsAfter, HasAsked, IsBare, IsDraft, Took}
use Rattle.block_summary.specs.LineSummaries.{conditions_of_instr, line_summary, near_asked, plainly_asked, slider_asked}
use Rattle.face_data.proofs.Front.{AllHold}
use Rattle.block_summary.proofs.LineFront.{front_knit}
use Rattle.carrier_rules.specs.declared.conds.OfEach.TheVariants.{InAction}
use Rattle.carrier_rules.specs.Carriers.{conds_of_each, floats_of_each, lasts_of}
use Rattle.std.proofs.lemmas.List.Elements.{Contains-append_cases}
use Rattle.knit_base.proofs.Needles.{slider_bed-is_slider}

-- no hook is a slider
hook_apart : (n m : Needle) → is_slider n.bed ≡ false → (b : Bool) → same_needle n (own_slider m) ≡ b → b ≡ false
hook_apart n m hook true e =
    absurd (true≢false (sym (slider_bed-is_slider m.bed) ∙ sym (ap (λ (x : Needle). is_slider x.bed) (same_needle-true n (own_slider m) e)) ∙ hook))
hook_apart n m hook false e = refl

-- what is written to a hook leaves each slider
slider_left : (changes : List Changed) (n m : Needle) (segs : List Seg) → is_slider n.bed ≡ false →
    segments_on (changes_merged changes ((n, segs) ∷ [])) (own_slider m) ≡ segments_on changes (own_slider m)
slider_left changes n m segs hook =
    ap (λ o. unwrap_or o (Entry (own_slider m) ∷ []))
    (change_at-put changes n (own_slider m) segs ∙ ap (λ b. if b then Some segs else change_at changes (own_slider m)) (hook_apart n m hook (same_needle n (own_slider m)) refl))

answer_left : (e : Effect) (la : List Last) (a b : List Changed) (s : Needle) → segments_on b s ≡ segments_on a s → read_answer e la b (size_at_most (s ∷ []) 0) ≡ read_answer e la a (size_at_most (s ∷ []) 0)
unfolding read_answer
answer_left e la a b s same = ap (λ (segs : List Seg). size_answer (flat_map (λ (n : Needle). entry_needles_of segs) (s ∷ [])) (sum_by (λ (n : Needle). new_of segs) (s ∷ [])) 0) same

-- hooks whose sliders are known to hold nothing stay so
pub bare_left : (kept : List AskedCondition) (e : Effect) (la : List Last) (changes : List Changed) (n : Needle) (segs : List Seg) (o : Option Needle) → is_slider n.bed ≡ false → IsBare kept e la changes o →
    IsBare kept e la (changes_merged changes ((n, segs) ∷ [])) o
bare_left kept e la changes n segs None hook bare = tt
bare_left kept e la changes n segs (Some m) hook bare =
    ap (against_kept kept) (answer_left e la changes (changes_merged changes ((n, segs) ∷ [])) (own_slider m) (slider_left changes n m segs hook)) ∙ bare

in_mask : (cs : List CarrierNo) (c : CarrierNo) → Contains cs c → bit_at (mask_of cs) c.0 ≡ 1
in_mask [] c there = absurd (Contains-none c there)
in_mask (d ∷ cs) c there = elim (Contains-cons_cases d cs c there) [
  | inl same ↦ (let here : bit_at (2 ^ d.0) c.0 ≡ 1 = ap (λ (x : CarrierNo). bit_at (2 ^ d.0) x.0) (sym same) ∙ bit_at-pow_same d.0 in
      omega (arith, here, bit_at_or (mask_of cs) (2 ^ d.0) c.0, bit_at-lt (mask_of cs) c.0))
  | inr later ↦ (let before : bit_at (mask_of cs) c.0 ≡ 1 = in_mask cs c later in omega (arith, before, bit_at_or (mask_of cs) (2 ^ d.0) c.0, bit_at-lt (2 ^ d.0) c.0))
]

in_known : (cs : List CarrierNo) (known : ℕ) (c : CarrierNo) → bit_and (mask_of cs) known ≡ mask_of cs → Contains cs c → bit_at known c.0 ≡ 1
in_known cs known c all there =
    let mine : bit_at (mask_of cs) c.0 ≡ 1 = in_mask cs c there in
    let both : bit_at (bit_and (mask_of cs) known) c.0 ≡ bit_at (mask_of cs) c.0 = ap (λ set. bit_at set c.0) all in
    omega (arith, mine, both, bit_at_and (mask_of cs) known c.0, bit_at-lt known c.0)

ways : (came went ins : Bool) → (came || (ins && not went)) ≡ true → (came ≡ true) ⊎ ((came ≡ false) × (went ≡ false) × (ins ≡ true))
ways true went ins e = inl refl
ways false false true e = inr (refl, refl, refl)
ways false true true e = absurd (true≢false (sym e))
ways false false false e = absurd (true≢false (sym e))
ways false true false e = absurd (true≢false (sym e))

came_answer : (kept : List AskedCondition) (e : Effect) (la : List Last) (a : List Changed) (c : CarrierNo) → contains_carrier e.came c ≡ true → against_kept kept (read_answer e la a (carrier_in c)) ≡ yes_it_does
unfolding read_answer
came_answer kept e la a c came =
    ap (λ b. against_kept kept (if b then yes_it_does else (if contains_carrier e.went c then no_it_does_not else asks (carrier_in c)))) came

kept_answer : (kept : List AskedCondition) (e : Effect) (la : List Last) (a : List Changed) (c : CarrierNo) → contains_carrier e.came c ≡ false → contains_carrier e.went c ≡ false →
    against_kept kept (read_answer e la a (carrier_in c)) ≡ answer_of_kept kept (carrier_in c)
unfolding read_answer
kept_answer kept e la a c came went =
    ap (λ b. against_kept kept (if b then yes_it_does else (if contains_carrier e.went c then no_it_does_not else asks (carrier_in c)))) came
    ∙ ap (λ b. against_kept kept (if b then no_it_does_not else asks (carrier_in c))) went

carrier_known : (digest : Digest) (c : CarrierNo) → contains_carrier digest.ins c ≡ true → digest_bearing digest (carrier_in c) ≡ Implied
unfolding digest_bearing
carrier_known digest c ins = ap (λ b. if b then Implied else if_so (contains_carrier digest.outs c) Refuted) ins

-- a carrier of a list, all of which are in a set
pub in_set : (cs : List CarrierNo) (known : ℕ) (c : CarrierNo) → bit_and (mask_of cs) known ≡ mask_of cs → Contains cs c → contains_carrier known c ≡ true
in_set cs known c all there = ap (λ b. nat_eq b 1) (in_known cs known c all there)

-- a carrier that came, or was asked for and didn't go, is known to be in action
pub carrier_held : (kept : List AskedCondition) (e : Effect) (la : List Last) (a : List Changed) (digest : Digest) (c : CarrierNo) → digest ≡ digest_of kept → IsIrredundant kept →
    contains_carrier (bit_or e.came (without_set digest.ins e.went)) c ≡ true → against_kept kept (read_answer e la a (carrier_in c)) ≡ yes_it_does
carrier_held kept e la a digest c is each known =
    elim (ways (contains_carrier e.came c) (contains_carrier e.went c) (contains_carrier digest.ins c)
    (ap (λ b. contains_carrier e.came c || b) (sym (has-without digest.ins e.went c)) ∙ sym (has-bit_or e.came (without_set digest.ins e.went) c) ∙ known)) [
      | inl came ↦ came_answer kept e la a c came
      | inr ask ↦ kept_answer kept e la a c ask.0 ask.1 ∙ settled-plain kept (carrier_in c) tt each
          ∙ ap (λ r. from_bearing r (asks (carrier_in c))) (ap (λ (d : Digest). digest_bearing d (carrier_in c)) (sym is) ∙ carrier_known digest c ask.2)
    ]

-- what holds in any case holds where the answer is Ok
pub where_ok : (X E : Type 0) (r : Result X E) (P : Type 0) → P → OnOk r P
where_ok X E (Ok x) P p = p
where_ok X E (Err e) P p = tt

-- none of the hooks is known to be bare
all_bare : (kept : List AskedCondition) (e : Effect) (la : List Last) (changes : List Changed) (bare : List (Option Needle)) → All (λ (o : Option Needle). o ≡ None) bare → All (IsBare kept e la changes) bare
all_bare kept e la changes bare none = All-weaker (λ (o : Option Needle). o ≡ None) (IsBare kept e la changes) (λ o same. subst (IsBare kept e la changes) (sym same) tt) bare none

-- what stays known after a hook got other segments
pub put_on_hook : (lines made : ℕ) (kept : List AskedCondition) (e : Effect) (la : List Last) (a b : List Changed) (bare : List (Option Needle)) (n : Needle) (segs : List Seg) → is_slider n.bed ≡ false →
    made ≤ lines → IsInOrder b → b ≡ changes_merged a ((n, segs) ∷ []) → All (IsBare kept e la a) bare → IsDraft lines made kept e la b bare
put_on_hook lines made kept e la a b bare n segs hook few order is bare_are = record {
  few = few;
  order = order;
  bare_are = All-weaker (IsBare kept e la a) (IsBare kept e la b) (λ o p. subst (λ changes. IsBare kept e la changes o) (sym is) (bare_left kept e la a n segs o hook p)) bare bare_are;
}

-- where no hook is known to be bare
pub put_anywhere : (lines made : ℕ) (kept : List AskedCondition) (e : Effect) (la : List Last) (b : List Changed) (bare : List (Option Needle)) → made ≤ lines → IsInOrder b →
    All (λ (o : Option Needle). o ≡ None) bare → IsDraft lines made kept e la b bare
put_anywhere lines made kept e la b bare few order none = record { few = few; order = order; bare_are = all_bare kept e la b bare none }

-- a condition on sizes doesn't ask what the lines did to rack, carriers, hook and last needles
pub bare_effect : (kept : List AskedCondition) (e f : Effect) (la lb : List Last) (a : List Changed) (o : Option Needle) → IsBare kept e la a o → IsBare kept f lb a o
unfolding read_answer
bare_effect kept e f la lb a None bare = tt
bare_effect kept e f la lb a (Some n) bare = bare

-- lines that are carried out leave what is known of sliders
pub moved_on : (lines made more_lines more_made : ℕ) (kept : List AskedCondition) (e f : Effect) (la lb : List Last) (a : List Changed) (bare : List (Option Needle)) → more_made ≤ more_lines →
    IsDraft lines made kept e la a bare → IsDraft more_lines more_made kept f lb a bare
moved_on lines made more_lines more_made kept e f la lb a bare few draft = record {
  few = few;
  order = draft.order;
  bare_are = All-weaker (IsBare kept e la a) (IsBare kept f lb a) (λ o p. bare_effect kept e f la lb a o p) bare draft.bare_are;
}

-- carriers that are known to be in action are asked for in vain
pub carriers_asked : (kept : List AskedCondition) (e : Effect) (la : List Last) (a : List Changed) (at : ℕ) (cs : List CarrierNo) → ((c : CarrierNo) → Contains cs c → IsConditionKnown kept e la a (carrier_in c)) →
    (d : AskedCondition) → Contains (map plainly_asked (conds_of_each InAction at cs)) d → IsConditionKnown kept e la a d.ask
carriers_asked kept e la a at [] known d there = absurd (Contains-none d there)
carriers_asked kept e la a at (c ∷ cs) known d there = elim (Contains-cons_cases _ (map plainly_asked (conds_of_each InAction (at + 1) cs)) d there) [
  | inl same ↦ subst (λ (x : AskedCondition). IsConditionKnown kept e la a x.ask) same (known c (Contains-head c cs))
  | inr later ↦ carriers_asked kept e la a (at + 1) cs (λ x h. known x (Contains-tail c cs x h)) d later
]

-- floats that are known to be short enough are asked for in vain
floats_asked_each : (kept : List AskedCondition) (e : Effect) (la : List Last) (a : List Changed) (float : ℕ) (number : ℤ) (at : ℕ) (cs : List CarrierNo) →
    ((c : CarrierNo) → Contains cs c → IsConditionKnown kept e la a (last_near c number float)) →
    (d : AskedCondition) → Contains (map plainly_asked (floats_of_each float number at cs)) d → IsConditionKnown kept e la a d.ask
floats_asked_each kept e la a float number at [] known d there = absurd (Contains-none d there)
floats_asked_each kept e la a float number at (c ∷ cs) known d there = elim (Contains-cons_cases _ (map plainly_asked (floats_of_each float number (at + 1) cs)) d there) [
  | inl same ↦ subst (λ (x : AskedCondition). IsConditionKnown kept e la a x.ask) same (known c (Contains-head c cs))
  | inr later ↦ floats_asked_each kept e la a float number (at + 1) cs (λ x h. known x (Contains-tail c cs x h)) d later
]

-- so are those of a knit, where there is a limit
pub near_asked_knit : (kept : List AskedCondition) (e : Effect) (la : List Last) (a : List Changed) (limit : Option ℕ) (dir : Dir) (n : Needle) (cs : List CarrierNo) →
    ((float : ℕ) (c : CarrierNo) → limit ≡ Some float → Contains cs c → IsConditionKnown kept e la a (last_near c n.at float)) →
    (d : AskedCondition) → Contains (near_asked limit (Knit dir n cs)) d → IsConditionKnown kept e la a d.ask
near_asked_knit kept e la a None dir n cs known d there = absurd (Contains-none d there)
near_asked_knit kept e la a (Some float) dir n cs known d there = floats_asked_each kept e la a float n.at 3 cs (λ c h. known float c refl h) d there

-- so is all that a knit asks for, where the slider is known to hold nothing
pub knit_asked : (profile : Profile) (dir : Dir) (n : Needle) (c : CarrierNo) (cs : List CarrierNo) (kept : List AskedCondition) (e : Effect) (la : List Last) (a : List Changed) →
    ((x : CarrierNo) → Contains (c ∷ cs) x → IsConditionKnown kept e la a (carrier_in x)) → IsConditionKnown kept e la a (size_at_most (own_slider n ∷ []) 0) →
    ((float : ℕ) (x : CarrierNo) → profile.float ≡ Some float → Contains (c ∷ cs) x → IsConditionKnown kept e la a (last_near x n.at float)) →
    AllHold e la a kept (conditions_of_instr profile (Knit dir n (c ∷ cs)))
knit_asked profile dir n c cs kept e la a carriers slider near d there =
    elim (Contains-append_cases (map plainly_asked (conds_of_each InAction 3 (c ∷ cs))) (slider_asked (Some n) ++ near_asked profile.float (Knit dir n (c ∷ cs))) d there) [
      | inl first ↦ carriers_asked kept e la a 3 (c ∷ cs) carriers d first
      | inr last ↦ elim (Contains-cons_cases _ (near_asked profile.float (Knit dir n (c ∷ cs))) d last) [
        | inl same ↦ subst (λ (x : AskedCondition). IsConditionKnown kept e la a x.ask) same slider
        | inr later ↦ near_asked_knit kept e la a profile.float dir n (c ∷ cs) near d later
      ]
    ]

-- no limit isn't one of so many numbers
pub no_limit : (float : ℕ) → None ≡ Some float → ⊥
no_limit float e = absurd (cc)

-- a knit whose conditions are known to hold, on what the code keeps where floats have no limit
pub knit_more : (profile : Profile) (dir : Dir) (n : Needle) (c : CarrierNo) (cs : List CarrierNo) (old : Summary) (lines made : ℕ) (kept : List AskedCondition) (a b : List Changed) (la : List Last) (e : Effect) (segs : List Seg) →
    record { lines = lines; made = made; checks = kept; changes = a; lasts = la; ending = Through e } ≡ old → segs ≡ New lines ∷ [] → b ≡ changes_merged a ((n, segs) ∷ []) → profile.float ≡ None →
    ((x : CarrierNo) → Contains (c ∷ cs) x → HoldsAfter old (carrier_in x)) → HoldsAfter old (size_at_most (own_slider n ∷ []) 0) →
    record { lines = lines + 1; made = made + 1; checks = kept; changes = b; lasts = la; ending = Through e } ≡ composed old (line_summary profile (read.Instr (Knit dir n (c ∷ cs))))
knit_more profile dir n c cs old lines made kept a b la e segs seen one is free carriers slider =
    let draft : Summary = record { lines = lines; made = made; checks = kept; changes = a; lasts = la; ending = Through e } in
    let none : lasts_of profile.float (Knit dir n (c ∷ cs)) ≡ [] = ap (λ limit. lasts_of limit (Knit dir n (c ∷ cs))) free in
    (λ i. record { lines = lines + 1; made = made + 1; checks = kept; changes = (is ∙ ap (λ xs. changes_merged a ((n, xs) ∷ [])) one) i; lasts = lasts_of_both la (sym none i); ending = Through e })
    ∙ sym (front_knit profile draft e dir n c cs refl (knit_asked profile dir n c cs kept e la a
    (λ x there. subst (λ (s : Summary). HoldsAfter s (carrier_in x)) (sym seen) (carriers x there))
    (subst (λ (s : Summary). HoldsAfter s (size_at_most (own_slider n ∷ []) 0)) (sym seen) slider)
    (λ float x limited there. absurd (no_limit float (sym free ∙ limited)))))
    ∙ ap (λ (s : Summary). composed s (line_summary profile (read.Instr (Knit dir n (c ∷ cs))))) seen

-- the effect tells
pub effect_known : (kept : List AskedCondition) (e : Effect) (la : List Last) (a : List Changed) (q : Ask) (r : Bearing) → IsPlainCondition q → r ≡ effect_bearing e q → (r ≡ Silent → ⊥) →
    against_kept kept (read_answer e la a q) ≡ from_bearing r (asks q)
effect_known kept e la a q Implied plain said loud = ap (against_kept kept) (read-plain e la a q plain ∙ ap (λ b. from_bearing b (asks q)) (sym said))
effect_known kept e la a q Refuted plain said loud = ap (against_kept kept) (read-plain e la a q plain ∙ ap (λ b. from_bearing b (asks q)) (sym said))
effect_known kept e la a q Silent plain said loud = absurd (loud refl)

-- or else the digest
pub digest_known : (kept : List AskedCondition) (e : Effect) (la : List Last) (a : List Changed) (digest : Digest) (q : Ask) (r : Bearing) → IsPlainCondition q → Silent ≡ effect_bearing e q → digest ≡ digest_of kept →
    IsIrredundant kept → r ≡ digest_bearing digest q → against_kept kept (read_answer e la a q) ≡ from_bearing r (asks q)
digest_known kept e la a digest q r plain silence is each said =
    ap (against_kept kept) (read-plain e la a q plain ∙ ap (λ b. from_bearing b (asks q)) (sym silence))
    ∙ settled-plain kept q plain each
    ∙ ap (λ b. from_bearing b (asks q)) (ap (λ (d : Digest). digest_bearing d q) (sym is) ∙ sym said)

more_by : (r : Bearing) (rest more : ConditionAnswer) → (rest ≡ yes_it_does → more ≡ yes_it_does) → from_bearing r rest ≡ yes_it_does → from_bearing r more ≡ yes_it_does
more_by Implied rest more step h = refl
more_by Refuted rest more step h = absurd (cc)
more_by Silent rest more step h = step h

settled_more : (kept : List AskedCondition) (c : AskedCondition) (q : Ask) → answer_of_kept kept q ≡ yes_it_does → answer_of_kept (kept ++ c ∷ []) q ≡ yes_it_does
unfolding answer_of_kept
settled_more [] c q e = absurd (cc)
settled_more (k ∷ ks) c q e = more_by (bearing k.ask q) (answer_of_kept ks q) (answer_of_kept (ks ++ c ∷ []) q) (settled_more ks c q) e

-- a condition that is known to hold stays known
pub held_more : (kept : List AskedCondition) (c : AskedCondition) (r : ConditionAnswer) → against_kept kept r ≡ yes_it_does → against_kept (kept ++ c ∷ []) r ≡ yes_it_does
held_more kept c yes_it_does e = refl
held_more kept c no_it_does_not e = e
held_more kept c (asks q) e = settled_more kept c q e

bare_more : (kept : List AskedCondition) (c : AskedCondition) (e : Effect) (la : List Last) (a : List Changed) (o : Option Needle) → IsBare kept e la a o → IsBare (kept ++ c ∷ []) e la a o
bare_more kept c e la a None bare = tt
bare_more kept c e la a (Some n) bare = held_more kept c (read_answer e la a (size_at_most (own_slider n ∷ []) 0)) bare

-- what stays known after a condition was kept
pub kept_more : (lines made : ℕ) (kept now : List AskedCondition) (e : Effect) (la : List Last) (a : List Changed) (bare : List (Option Needle)) (c : AskedCondition) → now ≡ kept ++ c ∷ [] →
    IsDraft lines made kept e la a bare → IsDraft lines made now e la a bare
kept_more lines made kept now e la a bare c is draft = subst (λ (ks : List AskedCondition). IsDraft lines made ks e la a bare) (sym is) (record {
  few = draft.few;
  order = draft.order;
  bare_are = All-weaker (IsBare kept e la a) (IsBare (kept ++ c ∷ []) e la a) (λ o p. bare_more kept c e la a o p) bare draft.bare_are;
})

-- the condition is left to ask
pub left_to_ask : (old : Summary) (kept : List AskedCondition) (e : Effect) (la : List Last) (a : List Changed) (lines made : ℕ) (q : Ask) (r : Bearing) →
    record { lines = lines; made = made; checks = kept; changes = a; lasts = la; ending = Through e } ≡ old →
    against_kept old.checks (read_answer (effect_in old.ending) old.lasts old.changes q) ≡ from_bearing r (asks q) → r ≡ Silent → answer_of_kept kept q ≡ asks q
left_to_ask old kept e la a lines made q r seen said silence =
    let left : against_kept kept (read_answer e la a q) ≡ asks q =
    subst (λ (s : Summary). against_kept s.checks (read_answer (effect_in s.ending) s.lasts s.changes q) ≡ asks q) (sym seen) (said ∙ ap (λ b. from_bearing b (asks q)) silence) in
    ap (against_kept kept) (sym ((against_asks kept (read_answer e la a q) q left).0)) ∙ left

-- nothing is known of no line
pub nothing_known : (kept : List AskedCondition) (e : Effect) (la : List Last) (changes : List Changed) (bare : List (Option Needle)) → changes ≡ [] → All (λ (o : Option Needle). o ≡ None) bare →
    IsDraft 0 0 kept e la changes bare
nothing_known kept e la changes bare none empty =
    put_anywhere 0 0 kept e la changes bare (omega arith) (subst (λ (cs : List Changed). IsInOrder cs) (sym none) none_in_order) empty

-- what a condition on sizes comes to, where there are too many loops already
sizes_over : (a : List Changed) (rule : SizeRule) (ask : SizeAsk) → ask.max <ℤ pos 0 → ask ≡ size_ask a rule →
    size_answer (names_through a rule.needles) (new_through a rule.needles) rule.most ≡ no_it_does_not
sizes_over a rule ask below is =
    let max : ask.max ≡ (pos ((rule.most + 1) - new_through a rule.needles) -ℤ pos 1) = ap (λ (q : SizeAsk). q.max) is in
    sym (size_answer_over (names_through a rule.needles) (new_through a rule.needles) rule.most (omega (arith, ints, max, below)))

-- and where there may be so many at the entry
sizes_left : (a : List Changed) (rule : SizeRule) (ask : SizeAsk) (most : ℕ) → ask.max ≡ pos most → ask ≡ size_ask a rule →
    size_answer (names_through a rule.needles) (new_through a rule.needles) rule.most ≡ size_left ask.entries most
unfolding size_answer
sizes_left a rule ask most is_most is =
    let max : ask.max ≡ (pos ((rule.most + 1) - new_through a rule.needles) -ℤ pos 1) = ap (λ (q : SizeAsk). q.max) is in
    let entries : names_through a rule.needles ≡ ask.entries = sym (ap (λ (q : SizeAsk). q.entries) is) in
    let left : rule.most - new_through a rule.needles ≡ most = omega (arith, ints, max, is_most) in
    let room : new_through a rule.needles ≤ rule.most = omega (arith, ints, max, is_most) in
    ap (λ b. if b then no_it_does_not else size_left (names_through a rule.needles) (rule.most - new_through a rule.needles)) (le-ltb rule.most (new_through a rule.needles) room)
    ∙ (λ i. size_left (entries i) (left i))

took_known : (old new : Summary) (ask : SizeAsk) (rule : SizeRule) (r : ConditionAnswer) (goes : Bool) → ask ≡ size_ask old.changes rule →
    size_answer (names_through old.changes rule.needles) (new_through old.changes rule.needles) rule.most ≡ r →
    Took (against_kept old.checks r) old new (record { line = old.lines; reason = ask.reason }) goes →
    HasAsked old new (record { line = old.lines; reason = rule.reason }) (size_at_most rule.needles rule.most) goes
unfolding read_answer
took_known old new ask rule r goes is says took =
    subst (λ answer. Took (against_kept old.checks answer) old new (record { line = old.lines; reason = rule.reason }) goes) (sym says)
    (subst (λ reason. Took (against_kept old.checks r) old new (record { line = old.lines; reason = reason }) goes) (ap (λ (q : SizeAsk). q.reason) is) took)

-- asking a condition on sizes that can't hold
pub took_over : (old : Summary) (ask : SizeAsk) (rule : SizeRule) → ask.max <ℤ pos 0 → ask ≡ size_ask old.changes rule →
    HasAsked old old (record { line = old.lines; reason = rule.reason }) (size_at_most rule.needles rule.most) false
took_over old ask rule below is = took_known old old ask rule no_it_does_not false is (sizes_over old.changes rule ask below is) (refl, refl)

-- asking one that may hold
pub took_left : (old new : Summary) (ask : SizeAsk) (rule : SizeRule) (entries : List Needle) (most : ℕ) (goes : Bool) → ask.max ≡ pos most → entries ≡ ask.entries → ask ≡ size_ask old.changes rule →
    Took (against_kept old.checks (size_left entries most)) old new (record { line = old.lines; reason = ask.reason }) goes →
    HasAsked old new (record { line = old.lines; reason = rule.reason }) (size_at_most rule.needles rule.most) goes
took_left old new ask rule entries most goes is_most are is took =
    took_known old new ask rule (size_left ask.entries most) goes is (sizes_left old.changes rule ask most is_most is)
    (subst (λ (ns : List Needle). Took (against_kept old.checks (size_left ns most)) old new (record { line = old.lines; reason = ask.reason }) goes) are took)

-- asking changes the conditions alone
pub took_rest : (r : ConditionAnswer) (old new : Summary) (fault : Fault) (goes : Bool) → Took r old new fault goes → new ≡ record old { checks = new.checks }
took_rest yes_it_does old new fault goes took = took.1 ∙ ap (λ (s : Summary). record old { checks = s.checks }) (sym took.1)
took_rest no_it_does_not old new fault goes took = took.1 ∙ ap (λ (s : Summary). record old { checks = s.checks }) (sym took.1)
took_rest (asks q) old new fault goes took = took.1 ∙ ap (λ (s : Summary). record old { checks = s.checks }) (sym took.1)

-- no needle is to be asked
pub entries_none : (old : Summary) (entries : List Needle) (most : ℕ) (fault : Fault) → length entries ≡ 0 → Took (against_kept old.checks (size_left entries most)) old old fault true
entries_none old [] most fault none = (refl, refl)
entries_none old (n ∷ entries) most fault none = absurd (omega (arith, none))

left_to_kept : (kept : List AskedCondition) (entries : List Needle) (most : ℕ) → 1 ≤ length entries → against_kept kept (size_left entries most) ≡ answer_of_kept kept (size_at_most entries most)
left_to_kept kept [] most some = absurd (omega (arith, some))
left_to_kept kept (n ∷ entries) most some = refl

-- the kept conditions tell
pub entries_known : (old : Summary) (lines made : ℕ) (kept : List AskedCondition) (a : List Changed) (la : List Last) (e : Effect) (entries : List Needle) (most : ℕ) (fault : Fault) →
    record { lines = lines; made = made; checks = kept; changes = a; lasts = la; ending = Through e } ≡ old → 1 ≤ length entries → answer_of_kept kept (size_at_most entries most) ≡ yes_it_does →
    Took (against_kept old.checks (size_left entries most)) old old fault true
entries_known old lines made kept a la e entries most fault seen some known =
    let says : against_kept old.checks (size_left entries most) ≡ yes_it_does =
    ap (λ (s : Summary). against_kept s.checks (size_left entries most)) (sym seen) ∙ left_to_kept kept entries most some ∙ known in
    subst (λ r. Took r old old fault true) (sym says) (refl, refl)

-- one more condition is kept
pub entries_kept : (old : Summary) (lines made : ℕ) (kept now : List AskedCondition) (a : List Changed) (la : List Last) (e : Effect) (entries : List Needle) (most : ℕ) (reason : Reason) →
    record { lines = lines; made = made; checks = kept; changes = a; lasts = la; ending = Through e } ≡ old → 1 ≤ length entries →
    answer_of_kept kept (size_at_most entries most) ≡ asks (size_at_most entries most) →
    now ≡ kept ++ record { fault = record { line = lines; reason = reason }; ask = size_at_most entries most } ∷ [] →
    Took (against_kept old.checks (size_left entries most)) old (record { lines = lines; made = made; checks = now; changes = a; lasts = la; ending = Through e }) (record { line = old.lines; reason = reason }) true
entries_kept old lines made kept now a la e entries most reason seen some silent more =
    let says : against_kept old.checks (size_left entries most) ≡ asks (size_at_most entries most) =
    ap (λ (s : Summary). against_kept s.checks (size_left entries most)) (sym seen) ∙ left_to_kept kept entries most some ∙ silent in
    subst (λ r. Took r old (record { lines = lines; made = made; checks = now; changes = a; lasts = la; ending = Through e }) (record { line = old.lines; reason = reason }) true) (sym says) (
      refl,
      (λ i. record { lines = lines; made = made; checks = more i; changes = a; lasts = la; ending = Through e })
          ∙ ap (λ (s : Summary). record s { checks = s.checks ++ record { fault = record { line = s.lines; reason = reason }; ask = size_at_most entries most } ∷ [] }) seen,
    )

-- the conditions of lines that were drafted, one more line carried out
pub goes_on : (lines made loops : ℕ) (kept : List AskedCondition) (a : List Changed) (la : List Last) (e both effect : Effect) (old : Summary) →
    record { lines = lines; made = made; checks = kept; changes = a; lasts = la; ending = Through e } ≡ old → both ≡ effect_of_both e effect →
    record { lines = lines + 1; made = made + loops; checks = kept; changes = a; lasts = la; ending = Through both }
    ≡ record old { lines = old.lines + 1; made = old.made + loops; ending = Through (effect_of_both (effect_in old.ending) effect) }
goes_on lines made loops kept a la e both effect old seen is =
    (λ i. record { lines = lines + 1; made = made + loops; checks = kept; changes = a; lasts = la; ending = Through (is i) })
    ∙ ap (λ (s : Summary). record s { lines = s.lines + 1; made = s.made + loops; ending = Through (effect_of_both (effect_in s.ending) effect) }) seen
