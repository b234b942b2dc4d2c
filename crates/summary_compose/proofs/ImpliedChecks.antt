-- Conditions of a second face that a condition of the first at the same place implies.
use Rattle.std.proofs.Common.{◌≡◌, ◌⊎◌, inl, inr, ℕ, ◌≤◌, ◌+◌, ◌<◌, Bool, true, false, List, [], ◌∷◌, ◌++◌, length, refl, sym, ap, ◌∙◌, subst, arith}
use Rattle.std.specs.Prelude.{nat_le, nat_lt, ◌-◌, ◌&&◌, ◌||◌, if◌then◌else◌}
use Rattle.std.specs.List.{Contains, list_any}
use Rattle.std.proofs.Math.Path.{ap₂}
use Rattle.std.proofs.lemmas.Bool.{false≢true}
use Rattle.std.proofs.lemmas.List.Folds.{list_any-append}
use Rattle.std.proofs.lemmas.List.Sums.{sum_by-cons}
use Rattle.knit_base.specs.declared.needle.Needle.{Needle}
use Rattle.knit_base.proofs.Needles.{same_needle-refl}
use Rattle.face_data.specs.declared.bearing.Bearing.TheVariants.{Implied}
use Rattle.face_data.specs.declared.digest.Digest.{Digest}
use Rattle.face_data.specs.declared.face.Check.{Check}
use Rattle.face_data.specs.declared.face.Effect.{Effect}
use Rattle.face_data.specs.declared.face.Last.{Last}
use Rattle.face_data.specs.declared.face.Ending.TheVariants.{Through}
use Rattle.face_data.specs.declared.face.FaceView.{FaceView}
use Rattle.face_data.specs.declared.face.Seg.TheVariants.{Entry}
use Rattle.face_data.specs.Answers.{ConditionAnswer, read_answer}
use Rattle.face_data.specs.Answers.ConditionAnswer.{yes_it_does, no_it_does_not, asks}
use Rattle.face_data.specs.Bearings.{if_so}
use Rattle.face_data.specs.Chains.{SizeMark, answer_known, chain_at}
use Rattle.face_data.specs.Composition.{from_bearing}
use Rattle.face_data.specs.declared.face.Cond.{Cond}
use Rattle.face_data.specs.declared.face.Cond.TheVariants.{RackIs, CarrierIn, CarrierOut, HookFree, HookIs, HookLacks, SizeAtMost, LastNear}
use Rattle.face_data.specs.Conditions.{Ask, ask_of, part_of}
use Rattle.face_data.specs.Conditions.Ask.{size_at_most, last_near}
use Rattle.face_data.specs.Digests.{digest_bearing, digest_of, effect_bearing}
use Rattle.face_data.specs.Segments.{Changed, entry_needles_of, names_through, new_of, new_through, segments_on}
use Rattle.face_data.specs.Summaries.{AskedCondition, fault_raised}
use Rattle.face_data.proofs.Members.{Contains-cons_cases, Contains-none}
use Rattle.summary_compose.specs.Changes.{changes_in}
use Rattle.summary_compose.specs.Known.{AreImpliedChecks, AreGoodFaces, Knows, StepIs, checks_in, noted_answer, noted_left, notes_in, notes_of}
use Rattle.summary_compose.specs.Tables.{Note, note_suits}
use Rattle.summary_compose.proofs.Readings.{check_at, reads_begin, reads_on}
use Rattle.summary_compose.proofs.Answers.{plain_known}
use Rattle.summary_compose.proofs.Steps.{noted_own}

either : (a b : Bool) → (a ≡ true) ⊎ (b ≡ true) → (a || b) ≡ true
either true b h = refl
either false b (inl h) = absurd (false≢true h)
either false b (inr h) = h

own_note : (n : Needle) (least most : ℕ) → least ≤ most → list_any (note_suits n 1 most) (notes_in (size_at_most (n ∷ []) least)) ≡ true
own_note n least most h =
    let same = same_needle-refl n in
    let low : nat_le least most ≡ true = grind arith in
    ap₂ (λ (a b : Bool). (a && b) || false) same low

-- a kept condition on one needle is noted
pub note_there : (n : Needle) (least most : ℕ) (kept : List AskedCondition) (c : AskedCondition) → Contains kept c → c.ask ≡ size_at_most (n ∷ []) least → least ≤ most → list_any (note_suits n 1 most) (notes_of kept) ≡ true
note_there n least most [] c there is h = absurd (Contains-none c there)
note_there n least most (x ∷ xs) c there is h =
    list_any-append (note_suits n 1 most) (notes_in x.ask) (notes_of xs)
    ∙ either (list_any (note_suits n 1 most) (notes_in x.ask)) (list_any (note_suits n 1 most) (notes_of xs)) (elim (Contains-cons_cases x xs c there) [
      | inl same ↦ inl (ap (λ (y : AskedCondition). list_any (note_suits n 1 most) (notes_in y.ask)) same ∙ ap (λ q. list_any (note_suits n 1 most) (notes_in q)) is ∙ own_note n least most h)
      | inr later ↦ inr (note_there n least most xs c later is h)
    ])

-- a condition on one needle that the first face leaves as it was, of which the first face asks as much
pub size_alike : (changes : List Changed) (kept : List AskedCondition) (n : Needle) (needles : List Needle) (most : ℕ) → list_any (note_suits n 1 most) (notes_of kept) ≡ true →
    needles ≡ n ∷ [] → segments_on changes n ≡ Entry n ∷ [] → noted_answer (notes_of kept) (names_through changes needles) (new_through changes needles) most ≡ yes_it_does
size_alike changes kept n needles most there one own =
    let names : names_through changes needles ≡ n ∷ [] = ap (names_through changes) one ∙ ap (λ segs. entry_needles_of segs ++ []) own in
    let new_here : new_of (segments_on changes n) ≡ 0 = ap new_of own in
    let new_all = sum_by-cons (λ n. new_of (segments_on changes n)) n [] in
    let new : new_through changes needles ≡ 0 = ap (new_through changes) one ∙ new_all ∙ ap (λ k. k + 0) new_here in
    ap₂ (λ (ns : List Needle) (k : ℕ). noted_answer (notes_of kept) ns k most) names new ∙ noted_own (notes_of kept) n most
    ∙ ap (λ b. from_bearing (if_so b Implied) (asks (size_at_most (n ∷ []) most))) there

-- needles that hold new loops alone, and no more than are allowed
pub new_holds : (notes : List Note) (names : List Needle) (new most : ℕ) → names ≡ [] → new ≤ most → noted_answer notes names new most ≡ yes_it_does
unfolding noted_answer
new_holds notes names new most none few =
    let enough : nat_lt most new ≡ false = grind arith in
    ap₂ (λ b (ns : List Needle). if b then no_it_does_not else noted_left notes ns (most - new)) enough none

-- one more holds
pub alike_next : (a b : FaceView) (e : Effect) (i : ℕ) (d : Check) (digest : Digest) → AreGoodFaces a b → a.ending ≡ Through e → AreImpliedChecks a b e i → i < length b.checks.now → digest ≡ digest_of (checks_in a) →
    answer_known digest (chain_at (checks_in a)) (checks_in a) (read_answer e a.lasts.now (changes_in a) (check_at b i d).ask) ≡ yes_it_does → AreImpliedChecks a b e (i + 1)
alike_next a b e i d digest good through alike within is holds =
    let knows : Knows digest (notes_of (checks_in a)) (checks_in a) = record { digest_is = is; notes_are = refl } in
    let so = reads_begin a b e i (checks_in a) digest (notes_of (checks_in a)) good alike refl knows in
    let now = reads_on a b e i d (checks_in a) (checks_in a) digest digest (notes_of (checks_in a)) (notes_of (checks_in a)) (fault_raised a.lines (check_at b i d).fault) true good through so within refl refl
    (subst (λ x. StepIs x (checks_in a) (fault_raised a.lines (check_at b i d).fault) true (checks_in a)) (sym holds) (refl, refl)) knows in
    record { within = omega arith; others = now.read }

silent_yes : (q : Ask) → asks q ≡ yes_it_does → ⊥
silent_yes q e = subst is_asked e tt
  where
    is_asked : ConditionAnswer → Type 0
    is_asked yes_it_does = ⊥
    is_asked no_it_does_not = ⊥
    is_asked (asks q) = Unit {0}

-- a condition that the effect or the digest imply
pub implied_yes : (d : Digest) (chains : Needle → List SizeMark) (kept : List AskedCondition) (effect : Effect) (lasts : List Last) (changes : List Changed) (names : List Needle) (c : Cond) →
    from_bearing (effect_bearing effect (ask_of [] c)) (from_bearing (digest_bearing d (ask_of [] c)) (asks (ask_of [] c))) ≡ yes_it_does →
    answer_known d chains kept (read_answer effect lasts changes (ask_of names c)) ≡ yes_it_does
unfolding effect_bearing digest_bearing
implied_yes d chains kept effect lasts changes names (SizeAtMost p most) e = absurd (silent_yes (size_at_most (part_of [] p) most) e)
implied_yes d chains kept effect lasts changes names (RackIs q) e = plain_known d chains kept effect lasts changes names (RackIs q) tt ∙ e
implied_yes d chains kept effect lasts changes names (CarrierIn c) e = plain_known d chains kept effect lasts changes names (CarrierIn c) tt ∙ e
implied_yes d chains kept effect lasts changes names (CarrierOut c) e = plain_known d chains kept effect lasts changes names (CarrierOut c) tt ∙ e
implied_yes d chains kept effect lasts changes names HookFree e = plain_known d chains kept effect lasts changes names HookFree tt ∙ e
implied_yes d chains kept effect lasts changes names (HookIs set) e = plain_known d chains kept effect lasts changes names (HookIs set) tt ∙ e
implied_yes d chains kept effect lasts changes names (HookLacks c) e = plain_known d chains kept effect lasts changes names (HookLacks c) tt ∙ e
implied_yes d chains kept effect lasts changes names (LastNear c at float) e = absurd (silent_yes (last_near c at float) e)
