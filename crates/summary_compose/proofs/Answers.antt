-- What the digest and the notes know of a condition is what the kept conditions say of it.
use Rattle.std.proofs.Common.{subst, ◌≡◌, ℕ, ◌-◌, Bool, true, false, List, [], ◌∷◌, Option, Some, None, length, map, refl, sym, ap, ◌∙◌}
use Rattle.std.specs.Prelude.{ℤ, nat_lt, nat_le, ◌&&◌, ◌||◌, if◌then◌else◌}
use Rattle.std.specs.List.{list_any}
use Rattle.std.proofs.Math.Path.{ap₂}
use Rattle.std.proofs.lemmas.Bool.{true≢false}
use Rattle.std.proofs.lemmas.List.Folds.{list_any-append}
use Rattle.knit_base.specs.declared.needle.Needle.{Needle}
use Rattle.knit_base.specs.declared.rule.Fault.{Fault}
use Rattle.knit_base.specs.Needle.{same_needle}
use Rattle.knit_base.specs.declared.yarns.CarrierNo.{CarrierNo}
use Rattle.carriage_model.specs.State.{is_near}
use Rattle.face_data.specs.Lasts.{bearing_of_last, last_at, last_bearing}
use Rattle.knit_base.specs.Yarns.{contains_carrier, lacks_carrier}
use Rattle.face_data.specs.declared.bearing.Bearing.TheVariants.{Implied, Refuted}
use Rattle.face_data.specs.declared.digest.Digest.{Digest}
use Rattle.face_data.specs.declared.face.Effect.{Effect}
use Rattle.face_data.specs.declared.face.Last.{Last}
use Rattle.face_data.specs.Answers.{ConditionAnswer, answer_of, near_answer, where_known, size_left, size_answer, read_answer}
use Rattle.face_data.specs.Answers.ConditionAnswer.{yes_it_does, no_it_does_not, asks}
use Rattle.face_data.specs.Bearings.{if_so, same_or_not}
use Rattle.face_data.specs.Chains.{SizeMark, marks_in, chain_at, size_mark_covers, is_covered, known_of, answer_known}
use Rattle.face_data.specs.Composition.{from_bearing, against_kept, next, reads, answer_of_kept, Gathering}
use Rattle.face_data.specs.declared.face.Cond.{Cond}
use Rattle.face_data.specs.declared.face.Cond.TheVariants.{RackIs, CarrierIn, CarrierOut, HookFree, HookIs, HookLacks, SizeAtMost, LastNear}
use Rattle.face_data.specs.declared.face.Part.{Part}
use Rattle.face_data.specs.Conditions.{Ask, ask_of, part_of}
use Rattle.face_data.specs.Conditions.Ask.{rack_is, carrier_in, carrier_out, hook_free, hook_is, hook_lacks, size_at_most, last_near}
use Rattle.face_data.specs.Digests.{digest_bearing, bearing_by, IsPlainCondition, effect_bearing}
use Rattle.face_data.specs.Segments.{Changed, names_through, new_through}
use Rattle.face_data.specs.Summaries.{AskedCondition, fault_raised}
use Rattle.summary_compose.specs.Known.{IsPlainCond, Knows, StepIs, notes_in, notes_of, noted_answer, noted_left}
use Rattle.summary_compose.specs.Tables.{Note, note_suits}
use Rattle.knit_base.proofs.Needles.{same_needle-comm}

test_known : (d : Digest) (chains : Needle → List SizeMark) (kept : List AskedCondition) (b : Bool) (rest : ConditionAnswer) → answer_known d chains kept (answer_of b) ≡ from_bearing (same_or_not b) rest
test_known d chains kept true rest = refl
test_known d chains kept false rest = refl

where_is : {X : Type 0} (d : Digest) (chains : Needle → List SizeMark) (kept : List AskedCondition) (o : Option X) (test : X → Bool) (q : Ask) → known_of d chains kept q ≡ from_bearing (digest_bearing d q) (asks q) →
    answer_known d chains kept (where_known o test q) ≡ from_bearing (bearing_by o (λ x. same_or_not (test x))) (from_bearing (digest_bearing d q) (asks q))
where_is d chains kept None test q e = e
where_is d chains kept (Some x) test q e = test_known d chains kept (test x) (from_bearing (digest_bearing d q) (asks q))

in_is : (d : Digest) (chains : Needle → List SizeMark) (kept : List AskedCondition) (came went : Bool) (q : Ask) → known_of d chains kept q ≡ from_bearing (digest_bearing d q) (asks q) →
    answer_known d chains kept (if came then yes_it_does else (if went then no_it_does_not else asks q)) ≡ from_bearing (if came then Implied else if_so went Refuted) (from_bearing (digest_bearing d q) (asks q))
in_is d chains kept true went q e = refl
in_is d chains kept false true q e = refl
in_is d chains kept false false q e = e

out_is : (d : Digest) (chains : Needle → List SizeMark) (kept : List AskedCondition) (came went : Bool) (q : Ask) → known_of d chains kept q ≡ from_bearing (digest_bearing d q) (asks q) →
    answer_known d chains kept (if came then no_it_does_not else (if went then yes_it_does else asks q)) ≡ from_bearing (if came then Refuted else if_so went Implied) (from_bearing (digest_bearing d q) (asks q))
out_is d chains kept true went q e = refl
out_is d chains kept false true q e = refl
out_is d chains kept false false q e = e

-- a condition that isn't on sizes
pub answer-plain : (d : Digest) (chains : Needle → List SizeMark) (kept : List AskedCondition) (effect : Effect) (lasts : List Last) (changes : List Changed) (q : Ask) → IsPlainCondition q →
    answer_known d chains kept (read_answer effect lasts changes q) ≡ from_bearing (effect_bearing effect q) (from_bearing (digest_bearing d q) (asks q))
unfolding read_answer effect_bearing
answer-plain d chains kept effect lasts changes (rack_is q) plain = where_is d chains kept effect.rack _ (rack_is q) refl
answer-plain d chains kept effect lasts changes (carrier_in c) plain = in_is d chains kept (contains_carrier effect.came c) (contains_carrier effect.went c) (carrier_in c) refl
answer-plain d chains kept effect lasts changes (carrier_out c) plain = out_is d chains kept (contains_carrier effect.came c) (contains_carrier effect.went c) (carrier_out c) refl
answer-plain d chains kept effect lasts changes hook_free plain = where_is d chains kept effect.hook _ hook_free refl
answer-plain d chains kept effect lasts changes (hook_is set) plain = where_is d chains kept effect.hook _ (hook_is set) refl
answer-plain d chains kept effect lasts changes (hook_lacks c) plain = where_is d chains kept effect.hook (λ held. lacks_carrier held c) (hook_lacks c) refl
answer-plain d chains kept effect lasts changes (last_near c at float) plain = absurd plain
answer-plain d chains kept effect lasts changes (size_at_most names most) plain = absurd plain

-- two needles one way round and the other
both_or : (x y z : Bool) → ((x && z) || (y && z)) ≡ ((x || y) && z)
both_or true true true = refl
both_or true true false = refl
both_or true false true = refl
both_or true false false = refl
both_or false y z = refl

notes_any : (n : Needle) (len most total k : ℕ) (xs : List Needle) →
    list_any (note_suits n len most) (map (λ m. record { needle = m; len = total; most = k }) xs) ≡ (list_any (same_needle n) xs && (nat_le len total && nat_le k most))
notes_any n len most total k [] = refl
notes_any n len most total k (x ∷ xs) =
    ap₂ (λ (a b : Bool). (a && (nat_le len total && nat_le k most)) || b) (same_needle-comm x n) (notes_any n len most total k xs)
    ∙ both_or (same_needle n x) (list_any (same_needle n) xs) (nat_le len total && nat_le k most)

mark_any : (len most total k : ℕ) (there : Bool) → (there && (nat_le len total && nat_le k most)) ≡ list_any (size_mark_covers len most) (if there then record { len = total; most = k } ∷ [] else [])
mark_any len most total k true = or_false (nat_le len total && nat_le k most)
  where
    or_false : (x : Bool) → x ≡ (x || false)
    or_false true = refl
    or_false false = refl
mark_any len most total k false = refl

notes_marks : (n : Needle) (len most : ℕ) (q : Ask) → list_any (note_suits n len most) (notes_in q) ≡ list_any (size_mark_covers len most) (marks_in n q)
notes_marks n len most (size_at_most names k) = notes_any n len most (length names) k names ∙ mark_any len most (length names) k (list_any (same_needle n) names)
notes_marks n len most (rack_is q) = refl
notes_marks n len most (carrier_in c) = refl
notes_marks n len most (carrier_out c) = refl
notes_marks n len most hook_free = refl
notes_marks n len most (hook_is set) = refl
notes_marks n len most (hook_lacks c) = refl
notes_marks n len most (last_near c at float) = refl

-- the notes of the kept conditions are the chains of their needles
pub notes_covered : (n : Needle) (len most : ℕ) (kept : List AskedCondition) → list_any (note_suits n len most) (notes_of kept) ≡ is_covered (chain_at kept n) len most
notes_covered n len most [] = refl
notes_covered n len most (c ∷ cs) =
    list_any-append (note_suits n len most) (notes_in c.ask) (notes_of cs)
    ∙ ap₂ (λ (a b : Bool). a || b) (notes_marks n len most c.ask) (notes_covered n len most cs)
    ∙ sym (list_any-append (size_mark_covers len most) (marks_in n c.ask) (chain_at cs n))

left_known : (d : Digest) (notes : List Note) (kept : List AskedCondition) (names : List Needle) (left : ℕ) (answer : ConditionAnswer) → Knows d notes kept →
    answer ≡ answer_known d (chain_at kept) kept (size_left names left) → answer ≡ noted_left notes names left
left_known d notes kept [] left answer h e = e
left_known d notes kept (n ∷ ns) left answer h e =
    e ∙ ap (λ b. from_bearing (if_so b Implied) (asks (size_at_most (n ∷ ns) left)))
    (sym (notes_covered n (length (n ∷ ns)) left kept) ∙ ap (list_any (note_suits n (length (n ∷ ns)) left)) (sym h.notes_are))

sized_on : (d : Digest) (notes : List Note) (kept : List AskedCondition) (names : List Needle) (new most : ℕ) (over : Bool) → Knows d notes kept →
    answer_known d (chain_at kept) kept (if over then no_it_does_not else size_left names (most - new)) ≡ (if over then no_it_does_not else noted_left notes names (most - new))
sized_on d notes kept names new most true h = refl
sized_on d notes kept names new most false h = left_known d notes kept names (most - new) (answer_known d (chain_at kept) kept (size_left names (most - new))) h refl

-- a condition on sizes
pub answer-sized : (d : Digest) (notes : List Note) (kept : List AskedCondition) (effect : Effect) (lasts : List Last) (changes : List Changed) (needles : List Needle) (most : ℕ) → Knows d notes kept →
    answer_known d (chain_at kept) kept (read_answer effect lasts changes (size_at_most needles most)) ≡ noted_answer notes (names_through changes needles) (new_through changes needles) most
unfolding read_answer size_answer noted_answer
answer-sized d notes kept effect lasts changes needles most h =
    sized_on d notes kept (names_through changes needles) (new_through changes needles) most (nat_lt most (new_through changes needles)) h

next_step : (answer : ConditionAnswer) (kept now : List AskedCondition) (fault : Fault) (goes_on : Bool) (go : List AskedCondition → Gathering) → StepIs answer kept fault goes_on now →
    next answer kept fault go ≡ (if goes_on then go now else record { checks = now; stop = Some fault })
next_step yes_it_does kept now fault true go h = ap go (sym h.1)
next_step yes_it_does kept now fault false go h = absurd (true≢false (sym h.0))
next_step no_it_does_not kept now fault true go h = absurd (true≢false h.0)
next_step no_it_does_not kept now fault false go h = λ i. record { checks = sym h.1 i; stop = Some fault }
next_step (asks q) kept now fault true go h = ap go (sym h.1)
next_step (asks q) kept now fault false go h = absurd (true≢false (sym h.0))

-- one condition of the second block read
pub reads_step : (effect : Effect) (lasts : List Last) (changes : List Changed) (lines : ℕ) (kept now rest : List AskedCondition) (c : AskedCondition) (goes_on : Bool) →
    StepIs (against_kept kept (read_answer effect lasts changes c.ask)) kept (fault_raised lines c.fault) goes_on now →
    reads effect lasts changes lines kept (c ∷ rest) ≡ (if goes_on then reads effect lasts changes lines now rest else record { checks = now; stop = Some (fault_raised lines c.fault) })
unfolding reads
reads_step effect lasts changes lines kept now rest c goes_on h =
    next_step (against_kept kept (read_answer effect lasts changes c.ask)) kept now (fault_raised lines c.fault) goes_on (λ ks. reads effect lasts changes lines ks rest) h

pub plain_ask : (names : List Needle) (c : Cond) → IsPlainCond c → ask_of names c ≡ ask_of [] c
plain_ask names (SizeAtMost p most) plain = absurd plain
plain_ask names (RackIs q) plain = refl
plain_ask names (CarrierIn c) plain = refl
plain_ask names (CarrierOut c) plain = refl
plain_ask names HookFree plain = refl
plain_ask names (HookIs set) plain = refl
plain_ask names (HookLacks c) plain = refl
plain_ask names (LastNear c at float) plain = absurd plain

pub plain_condition : (c : Cond) → IsPlainCond c → IsPlainCondition (ask_of [] c)
plain_condition (SizeAtMost p most) plain = absurd plain
plain_condition (RackIs q) plain = tt
plain_condition (CarrierIn c) plain = tt
plain_condition (CarrierOut c) plain = tt
plain_condition HookFree plain = tt
plain_condition (HookIs set) plain = tt
plain_condition (HookLacks c) plain = tt
plain_condition (LastNear c at float) plain = absurd plain

-- what the code knows of a condition that isn't on sizes
pub plain_known : (d : Digest) (chains : Needle → List SizeMark) (kept : List AskedCondition) (effect : Effect) (lasts : List Last) (changes : List Changed) (names : List Needle) (c : Cond) → IsPlainCond c →
    answer_known d chains kept (read_answer effect lasts changes (ask_of names c)) ≡ from_bearing (effect_bearing effect (ask_of [] c)) (from_bearing (digest_bearing d (ask_of [] c)) (asks (ask_of [] c)))
plain_known d chains kept effect lasts changes names c plain =
    ap (λ q. answer_known d chains kept (read_answer effect lasts changes q)) (plain_ask names c plain) ∙ answer-plain d chains kept effect lasts changes (ask_of [] c) (plain_condition c plain)

-- and of one on sizes
pub sized_known : (d : Digest) (notes : List Note) (effect : Effect) (lasts : List Last) (changes : List Changed) (names needles : List Needle) (c : Cond) (p : Part) (most : ℕ) (kept : List AskedCondition) →
    Knows d notes kept → c ≡ SizeAtMost p most → needles ≡ part_of names p →
    answer_known d (chain_at kept) kept (read_answer effect lasts changes (ask_of names c)) ≡ noted_answer notes (names_through changes needles) (new_through changes needles) most
sized_known d notes effect lasts changes names needles c p most kept known is read =
    sym (ap (λ q. answer_known d (chain_at kept) kept (read_answer effect lasts changes q)) (ap (λ ns. size_at_most ns most) read ∙ ap (ask_of names) (sym is)))
    ∙ answer-sized d notes kept effect lasts changes needles most known

-- what the code knows is what is known
pub plain_step : (d : Digest) (chains : Needle → List SizeMark) (effect : Effect) (lasts : List Last) (changes : List Changed) (names : List Needle) (c : Cond) (kept now : List AskedCondition) (fault : Fault) (goes_on : Bool) → IsPlainCond c →
    StepIs (from_bearing (effect_bearing effect (ask_of [] c)) (from_bearing (digest_bearing d (ask_of [] c)) (asks (ask_of [] c)))) kept fault goes_on now →
    StepIs (answer_known d chains kept (read_answer effect lasts changes (ask_of names c))) kept fault goes_on now
plain_step d chains effect lasts changes names c kept now fault goes_on plain h =
    subst (λ answer. StepIs answer kept fault goes_on now) (sym (plain_known d chains kept effect lasts changes names c plain)) h

-- a condition on sizes is asked
pub sized_step : (d : Digest) (notes : List Note) (effect : Effect) (lasts : List Last) (changes : List Changed) (names needles : List Needle) (c : Cond) (p : Part) (most : ℕ) (kept now : List AskedCondition) (fault : Fault) (goes_on : Bool) →
    Knows d notes kept → c ≡ SizeAtMost p most → needles ≡ part_of names p →
    StepIs (noted_answer notes (names_through changes needles) (new_through changes needles) most) kept fault goes_on now →
    StepIs (answer_known d (chain_at kept) kept (read_answer effect lasts changes (ask_of names c))) kept fault goes_on now
sized_step d notes effect lasts changes names needles c p most kept now fault goes_on known is read h =
    subst (λ answer. StepIs answer kept fault goes_on now) (sym (sized_known d notes effect lasts changes names needles c p most kept known is read)) h

near_is : (d : Digest) (chains : Needle → List SizeMark) (kept : List AskedCondition) (o : Option (Option ℤ)) (q : Ask) (rest : ConditionAnswer) (at : ℤ) (float : ℕ) → answer_known d chains kept (asks q) ≡ rest →
    answer_known d chains kept (near_answer o q at float) ≡ from_bearing (bearing_of_last o at float) rest
near_is d chains kept None q rest at float e = e
near_is d chains kept (Some last) q rest at float e = test_known d chains kept (is_near float last at) rest

-- what the code knows of a condition on a last needle
pub near_known : (d : Digest) (chains : Needle → List SizeMark) (kept : List AskedCondition) (effect : Effect) (lasts : List Last) (changes : List Changed) (names : List Needle) (c : Cond) (k : CarrierNo) (at : ℤ) (float : ℕ) → c ≡ LastNear k at float →
    answer_known d chains kept (read_answer effect lasts changes (ask_of names c)) ≡ from_bearing (last_bearing lasts k at float) (answer_of_kept kept (last_near k at float))
unfolding read_answer
near_known d chains kept effect lasts changes names c k at float is =
    ap (λ (x : Cond). answer_known d chains kept (read_answer effect lasts changes (ask_of names x))) is
    ∙ near_is d chains kept (last_at lasts k) (last_near k at float) (answer_of_kept kept (last_near k at float)) at float refl

pub near_step : (d : Digest) (chains : Needle → List SizeMark) (effect : Effect) (lasts : List Last) (changes : List Changed) (names : List Needle) (c : Cond) (k : CarrierNo) (at : ℤ) (float : ℕ) (kept now : List AskedCondition) (fault : Fault) (goes_on : Bool) →
    c ≡ LastNear k at float → StepIs (from_bearing (last_bearing lasts k at float) (answer_of_kept kept (last_near k at float))) kept fault goes_on now →
    StepIs (answer_known d chains kept (read_answer effect lasts changes (ask_of names c))) kept fault goes_on now
near_step d chains effect lasts changes names c k at float kept now fault goes_on is h =
    subst (λ answer. StepIs answer kept fault goes_on now) (sym (near_known d chains kept effect lasts changes names c k at float is)) h

-- one that the first face implies
pub near_yes : (d : Digest) (chains : Needle → List SizeMark) (kept : List AskedCondition) (effect : Effect) (lasts : List Last) (changes : List Changed) (names : List Needle) (c : Cond) (k : CarrierNo) (at : ℤ) (float : ℕ) → c ≡ LastNear k at float →
    last_bearing lasts k at float ≡ Implied → answer_known d chains kept (read_answer effect lasts changes (ask_of names c)) ≡ yes_it_does
near_yes d chains kept effect lasts changes names c k at float is implied =
    near_known d chains kept effect lasts changes names c k at float is ∙ ap (λ r. from_bearing r (answer_of_kept kept (last_near k at float))) implied
