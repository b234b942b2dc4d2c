-- Last needles: what is known of those that are near, and lines that give them.
use Rattle.std.proofs.Common.{◌≡◌, ℕ, ◌+◌, ◌<◌, Bool, true, false, List, [], ◌∷◌, length, drop, get_or, map, Option, None, Some, refl, sym, ap, ◌∙◌, subst}
use Rattle.std.specs.Prelude.{ℤ}
use Rattle.std.specs.List.{Contains}
use Rattle.std.proofs.lemmas.List.{drop_more}
use Rattle.knit_base.specs.declared.instr.Instr.TheVariants.{Knit}
use Rattle.knit_base.specs.declared.instr.Read.TheVariants as read
use Rattle.knit_base.specs.declared.needle.Dir.{Dir}
use Rattle.knit_base.specs.declared.needle.Needle.{Needle}
use Rattle.knit_base.specs.declared.profile.Profile.{Profile}
use Rattle.knit_base.specs.declared.yarns.CarrierNo.{CarrierNo}
use Rattle.knit_base.specs.Needle.{own_slider}
use Rattle.carriage_model.specs.State.{is_near}
use Rattle.face_data.specs.declared.bearing.Bearing.{Bearing}
use Rattle.face_data.specs.declared.bearing.Bearing.TheVariants.{Implied, Refuted, Silent}
use Rattle.face_data.specs.declared.face.Effect.{Effect}
use Rattle.face_data.specs.declared.face.Last.{Last}
use Rattle.face_data.specs.declared.face.Ending.TheVariants.{Through}
use Rattle.face_data.specs.declared.face.Seg.TheVariants.{New}
use Rattle.face_data.specs.Answers.{ConditionAnswer, answer_of, near_answer, read_answer}
use Rattle.face_data.specs.Answers.ConditionAnswer.{yes_it_does, asks}
use Rattle.face_data.specs.Bearings.{same_or_not}
use Rattle.face_data.specs.Composition.{against_kept, composed, from_bearing, answer_of_kept}
use Rattle.face_data.specs.Conditions.{Ask}
use Rattle.face_data.specs.Conditions.Ask.{carrier_in, last_near, size_at_most}
use Rattle.face_data.specs.Lasts.{bearing_of_last, last_at, last_bearing, lasts_of_both, put_last}
use Rattle.face_data.specs.Segments.{Changed}
use Rattle.face_data.specs.Summaries.{AskedCondition, Summary}
use Rattle.carrier_rules.specs.Carriers.{carrier_last, lasts_of}
use Rattle.block_summary.specs.DraftKnowledge.{AreNearIn, HoldsAfter, IsDraft, effect_in}
use Rattle.block_summary.specs.LineSummaries.{line_summary}
use Rattle.block_summary.proofs.DraftSteps.{bare_effect, knit_asked, moved_on, no_limit}
use Rattle.block_summary.proofs.LineFront.{front_knit, with_loop}

known_test : (kept : List AskedCondition) (near : Bool) (rest : ConditionAnswer) → against_kept kept (answer_of near) ≡ from_bearing (same_or_not near) rest
known_test kept true rest = refl
known_test kept false rest = refl

near_by : (kept : List AskedCondition) (o : Option (Option ℤ)) (q : Ask) (at : ℤ) (float : ℕ) → against_kept kept (near_answer o q at float) ≡ from_bearing (bearing_of_last o at float) (answer_of_kept kept q)
near_by kept None q at float = refl
near_by kept (Some last) q at float = known_test kept (is_near float last at) (answer_of_kept kept q)

-- The last needles tell of one that is to be near, or else the kept conditions do.
pub near_known : (kept : List AskedCondition) (e : Effect) (la : List Last) (a : List Changed) (c : CarrierNo) (at : ℤ) (float : ℕ) →
    against_kept kept (read_answer e la a (last_near c at float)) ≡ from_bearing (last_bearing la c at float) (answer_of_kept kept (last_near c at float))
unfolding read_answer
near_known kept e la a c at float = near_by kept (last_at la c) (last_near c at float) at float

-- the same on what a draft keeps
pub near_answered : (old : Summary) (lines made : ℕ) (kept : List AskedCondition) (a : List Changed) (la lent : List Last) (e : Effect) (c : CarrierNo) (n at : ℤ) (float : ℕ) (r : Bearing) (answer : ConditionAnswer) →
    record { lines = lines; made = made; checks = kept; changes = a; lasts = la; ending = Through e } ≡ old → lent ≡ la → n ≡ at → r ≡ last_bearing lent c n float →
    from_bearing r (answer_of_kept kept (last_near c at float)) ≡ answer →
    against_kept old.checks (read_answer (effect_in old.ending) old.lasts old.changes (last_near c at float)) ≡ answer
near_answered old lines made kept a la lent e c n at float r answer seen same number said is =
    subst (λ (s : Summary). against_kept s.checks (read_answer (effect_in s.ending) s.lasts s.changes (last_near c at float)) ≡ answer) seen
    (near_known kept e la a c at float
    ∙ ap (λ b. from_bearing b (answer_of_kept kept (last_near c at float))) ((λ i. last_bearing (sym same i) c (sym number i) float) ∙ sym said) ∙ is)

-- the last needles tell that it is
pub near_holds : (old : Summary) (lines made : ℕ) (kept : List AskedCondition) (a : List Changed) (la lent : List Last) (e : Effect) (c : CarrierNo) (n at : ℤ) (float : ℕ) (r : Bearing) →
    record { lines = lines; made = made; checks = kept; changes = a; lasts = la; ending = Through e } ≡ old → lent ≡ la → n ≡ at → r ≡ last_bearing lent c n float → r ≡ Implied →
    HoldsAfter old (last_near c at float)
near_holds old lines made kept a la lent e c n at float r seen same number said implied =
    near_answered old lines made kept a la lent e c n at float r yes_it_does seen same number said (ap (λ b. from_bearing b (answer_of_kept kept (last_near c at float))) implied)

-- what the last needles tell, and where they tell nothing, what the kept conditions say
pub told_by_lasts : (kept : List AskedCondition) (q : Ask) (r bearing : Bearing) → (r ≡ Silent → ⊥) → bearing ≡ r → from_bearing r (answer_of_kept kept q) ≡ from_bearing bearing (asks q)
told_by_lasts kept q Implied bearing loud is = ap (λ b. from_bearing b (asks q)) (sym is)
told_by_lasts kept q Refuted bearing loud is = ap (λ b. from_bearing b (asks q)) (sym is)
told_by_lasts kept q Silent bearing loud is = absurd (loud refl)

pub told_by_kept : (kept : List AskedCondition) (q : Ask) (r s bearing : Bearing) → r ≡ Silent → bearing ≡ s → answer_of_kept kept q ≡ from_bearing s (asks q) → from_bearing r (answer_of_kept kept q) ≡ from_bearing bearing (asks q)
told_by_kept kept q r s bearing silence is says = ap (λ b. from_bearing b (answer_of_kept kept q)) silence ∙ says ∙ ap (λ b. from_bearing b (asks q)) (sym is)

-- other last needles leave what else is known
pub lasts_put : (lines made : ℕ) (kept : List AskedCondition) (e : Effect) (la lb : List Last) (a : List Changed) (bare : List (Option Needle)) → IsDraft lines made kept e la a bare → IsDraft lines made kept e lb a bare
lasts_put lines made kept e la lb a bare draft = moved_on lines made lines made kept e e la lb a bare draft.few draft

-- a last needle more of a list
pub lasts_next : (items : List Last) (i : ℕ) (d : Last) (old new : List Last) → i < length items → new ≡ put_last old (get_or items i d) →
    lasts_of_both new (drop (i + 1) items) ≡ lasts_of_both old (drop i items)
lasts_next items i d old new within put = ap (λ xs. lasts_of_both xs (drop (i + 1) items)) put ∙ sym (ap (lasts_of_both old) (drop_more items i d within))

-- one of a list of carriers that get the same one
pub each_next : (at : Option ℤ) (cs : List CarrierNo) (i : ℕ) (d : CarrierNo) (old new : List Last) → i < length cs → new ≡ put_last old (carrier_last at (get_or cs i d)) →
    lasts_of_both new (map (carrier_last at) (drop (i + 1) cs)) ≡ lasts_of_both old (map (carrier_last at) (drop i cs))
each_next at cs i d old new within put =
    ap (λ xs. lasts_of_both xs (map (carrier_last at) (drop (i + 1) cs))) put ∙ sym (ap (λ ds. lasts_of_both old (map (carrier_last at) ds)) (drop_more cs i d within))

-- What is known of carriers in action and of sliders doesn't ask for last needles.
pub bare_still : (old mid : Summary) (lasts : List Last) (n : Needle) → mid ≡ record old { lasts = lasts } → HoldsAfter old (size_at_most (own_slider n ∷ []) 0) → HoldsAfter mid (size_at_most (own_slider n ∷ []) 0)
bare_still old mid lasts n is bare =
    subst (λ (s : Summary). HoldsAfter s (size_at_most (own_slider n ∷ []) 0)) (sym is)
    (bare_effect old.checks (effect_in old.ending) (effect_in old.ending) old.lasts lasts old.changes (Some n) bare)

in_still : (old : Summary) (lasts : List Last) (c : CarrierNo) → HoldsAfter old (carrier_in c) → HoldsAfter (record old { lasts = lasts }) (carrier_in c)
unfolding read_answer
in_still old lasts c holds = holds

pub carriers_still : (old mid : Summary) (lasts : List Last) (cs : List CarrierNo) → mid ≡ record old { lasts = lasts } → ((c : CarrierNo) → Contains cs c → HoldsAfter old (carrier_in c)) →
    (c : CarrierNo) → Contains cs c → HoldsAfter mid (carrier_in c)
carriers_still old mid lasts cs is known c there = subst (λ (s : Summary). HoldsAfter s (carrier_in c)) (sym is) (in_still old lasts c (known c there))

-- A knit whose floats are known to be short enough: its last needles are put, and then it is one where floats have no limit.
pub knit_near_more : (profile : Profile) (float : ℕ) (dir : Dir) (n : Needle) (c : CarrierNo) (cs : List CarrierNo) (old mid new : Summary) → old.ending ≡ Through (effect_in old.ending) →
    mid ≡ record old { lasts = lasts_of_both old.lasts (map (carrier_last (Some n.at)) (c ∷ cs)) } → profile.float ≡ Some float →
    ((x : CarrierNo) → Contains (c ∷ cs) x → HoldsAfter old (carrier_in x)) → HoldsAfter old (size_at_most (own_slider n ∷ []) 0) → AreNearIn old (Some float) n (c ∷ cs) →
    new ≡ composed mid (line_summary (record profile { float = None }) (read.Instr (Knit dir n (c ∷ cs)))) →
    new ≡ composed old (line_summary profile (read.Instr (Knit dir n (c ∷ cs))))
knit_near_more profile float dir n c cs old mid new through is limit carriers slider near drawn =
    let e : Effect = effect_in old.ending in
    let free : Profile = record profile { float = None } in
    let lasts : List Last = lasts_of_both old.lasts (map (carrier_last (Some n.at)) (c ∷ cs)) in
    let put : Summary = record old { lasts = lasts } in
    let given : lasts_of profile.float (Knit dir n (c ∷ cs)) ≡ map (carrier_last (Some n.at)) (c ∷ cs) = ap (λ l. lasts_of l (Knit dir n (c ∷ cs))) limit in
    drawn
    ∙ ap (λ (s : Summary). composed s (line_summary free (read.Instr (Knit dir n (c ∷ cs))))) is
    ∙ front_knit free put e dir n c cs through (knit_asked free dir n c cs old.checks e lasts old.changes
    (λ x there. in_still old lasts x (carriers x there))
    (bare_still old put lasts n refl slider)
    (λ f x limited there. absurd (no_limit f limited)))
    ∙ (λ i. with_loop old n (New old.lines ∷ []) (sym given i) e)
    ∙ sym (front_knit profile old e dir n c cs through (knit_asked profile dir n c cs old.checks e old.lasts old.changes carriers slider
    (λ f x limited there. near f x (sym limit ∙ limited) there)))
