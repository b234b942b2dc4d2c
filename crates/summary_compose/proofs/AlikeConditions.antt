-- Conditions that hold at sight: the same condition is kept, or a slider is asked of a face that changes none.
use Rattle.std.proofs.Common.{◌≡◌, ℕ, ◌<◌, true, false, List, [], ◌∷◌, None, Some, map, refl, sym, ap, ◌∙◌, subst, get_or, length, inl, inr}
use Rattle.std.specs.Prelude.{unwrap_or}
use Rattle.std.specs.List.{Contains}
use Rattle.std.proofs.Common.{eq-eqb}
use Rattle.std.proofs.lemmas.Bool.{true≢false}
use Rattle.std.proofs.lemmas.Cmp.{int_eq_equiv}
use Rattle.std.proofs.lemmas.List.Elements.{All-head, All-tail}
use Rattle.knit_base.specs.declared.needle.Needle.{Needle}
use Rattle.knit_base.specs.Needle.{is_slider, same_needle}
use Rattle.knit_base.proofs.Needles.{same_needle-false}
use Rattle.face_data.specs.declared.bearing.Bearing.{Bearing}
use Rattle.face_data.specs.declared.bearing.Bearing.TheVariants.{Implied, Silent}
use Rattle.face_data.specs.declared.face.Change.{Change}
use Rattle.face_data.specs.declared.face.Check.{Check}
use Rattle.face_data.specs.declared.face.Cond.{Cond}
use Rattle.face_data.specs.declared.face.FaceView.{FaceView}
use Rattle.face_data.specs.declared.face.Seg.{Seg}
use Rattle.face_data.specs.declared.face.Seg.TheVariants.{Entry}
use Rattle.face_data.specs.Answers.{ConditionAnswer}
use Rattle.face_data.specs.Answers.ConditionAnswer.{yes_it_does, asks}
use Rattle.face_data.specs.Bearings.{bearing, same_or_not, if_so}
use Rattle.face_data.specs.Composition.{from_bearing, answer_of_kept}
use Rattle.face_data.specs.Conditions.{Ask, ask_of, part_of}
use Rattle.face_data.specs.Conditions.Ask.{rack_is, carrier_in, carrier_out, hook_free, hook_is, hook_lacks, size_at_most, last_near}
use Rattle.face_data.specs.Digests.{IsPlainCondition, digest_bearing, digest_of}
use Rattle.face_data.specs.Goodness.{IsIrredundant}
use Rattle.face_data.specs.Segments.{change_at, segments_on}
use Rattle.face_data.specs.Summaries.{AskedCondition}
use Rattle.face_data.specs.View.{asked_of_check, changed_of}
use Rattle.face_data.proofs.Digests.{settled-plain}
use Rattle.face_data.proofs.Members.{Contains-cons_cases, Contains-none, contains_mapped}
use Rattle.summary_compose.specs.Changes.{SpareSliders}
use Rattle.summary_compose.specs.Known.{IsPlainCond, checks_in}
use Rattle.summary_compose.proofs.Answers.{plain_ask, plain_condition}
use Rattle.summary_compose.proofs.SegmentPlaces.{cond_false}

-- a condition says of itself that it holds
own_bearing : (q : Ask) → IsPlainCondition q → bearing q q ≡ Implied
unfolding bearing
own_bearing (rack_is p) plain = ap same_or_not (int_eq_equiv.refl p)
own_bearing (carrier_in c) plain = ap (λ b. if_so b Implied) (eq-eqb c.0 c.0 refl)
own_bearing (carrier_out c) plain = ap (λ b. if_so b Implied) (eq-eqb c.0 c.0 refl)
own_bearing hook_free plain = refl
own_bearing (hook_is set) plain = ap same_or_not (eq-eqb set set refl)
own_bearing (hook_lacks c) plain = ap (λ b. if_so b Implied) (eq-eqb c.0 c.0 refl)
own_bearing (last_near c at float) plain = absurd plain
own_bearing (size_at_most names most) plain = absurd plain

-- a condition that is kept is settled, since none before it says anything of it
settled_own : (kept : List AskedCondition) (c : AskedCondition) → Contains kept c → IsIrredundant kept → IsPlainCondition c.ask → answer_of_kept kept c.ask ≡ yes_it_does
unfolding answer_of_kept
settled_own [] c there apart plain = absurd (Contains-none c there)
settled_own (k ∷ ks) c there apart plain = elim (Contains-cons_cases k ks c there) [
  | inl same ↦ ap (λ r. from_bearing r (answer_of_kept ks c.ask)) (ap (λ (x : AskedCondition). bearing x.ask c.ask) same ∙ own_bearing c.ask plain)
  | inr later ↦ ap (λ r. from_bearing r (answer_of_kept ks c.ask)) (apart.0 c later) ∙ settled_own ks c later apart.1 plain
]

-- so where the face's condition at a place is the same
pub same_at_place : (a : FaceView) (at : ℕ) (d : Check) (c : Cond) → at < length a.checks.now → IsIrredundant (checks_in a) → IsPlainCond c → (get_or a.checks.now at d).cond ≡ c →
    from_bearing (digest_bearing (digest_of (checks_in a)) (ask_of [] c)) (asks (ask_of [] c)) ≡ yes_it_does
same_at_place a at d c there apart plain same =
    let kept : AskedCondition = asked_of_check a.names.now (get_or a.checks.now at d) in
    let is : kept.ask ≡ ask_of [] c = ap (ask_of a.names.now) same ∙ plain_ask a.names.now c plain in
    let is_plain : IsPlainCondition kept.ask = subst IsPlainCondition (sym is) (plain_condition c plain) in
    ap (λ q. from_bearing (digest_bearing (digest_of (checks_in a)) q) (asks q)) (sym is)
    ∙ sym (settled-plain (checks_in a) kept.ask is_plain apart)
    ∙ settled_own (checks_in a) kept (contains_mapped (asked_of_check a.names.now) a.checks.now at d there) apart is_plain

-- what is known where the effect says nothing
pub where_silent : (r : Bearing) (rest : ConditionAnswer) → r ≡ Silent → rest ≡ yes_it_does → from_bearing r rest ≡ yes_it_does
where_silent r rest silent holds = ap (λ b. from_bearing b rest) silent ∙ holds

unchanged_slider : (segs : List Seg) (changes : List Change) (n : Needle) → SpareSliders changes → is_slider n.bed ≡ true →
    change_at (map (changed_of segs) changes) n ≡ None
unchanged_slider segs [] n spared slider = refl
unchanged_slider segs (c ∷ cs) n spared slider =
    let other : n ≡ c.needle → ⊥ = λ same. true≢false (sym slider ∙ ap (λ (m : Needle). is_slider m.bed) same ∙ All-head (λ (c : Change). is_slider c.needle.bed ≡ false) c cs spared) in
    cond_false (same_needle n c.needle) (Some (part_of segs c.part)) (change_at (map (changed_of segs) cs) n) (same_needle-false n c.needle other)
    ∙ unchanged_slider segs cs n (All-tail (λ (c : Change). is_slider c.needle.bed ≡ false) c cs spared) slider

-- a slider holds its own entry where none is changed
pub slider_own : (segs : List Seg) (changes : List Change) (n : Needle) → SpareSliders changes → is_slider n.bed ≡ true →
    segments_on (map (changed_of segs) changes) n ≡ Entry n ∷ []
slider_own segs changes n spared slider = ap (λ x. unwrap_or x (Entry n ∷ [])) (unchanged_slider segs changes n spared slider)
