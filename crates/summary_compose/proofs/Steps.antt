-- One condition more against those that are kept.
use Rattle.std.proofs.Common.{◌≡◌, ℕ, Bool, true, false, List, [], ◌∷◌, ◌++◌, refl, sym, ap, ◌∙◌, subst}
use Rattle.std.proofs.lemmas.Grind.{flat_map-append}
use Rattle.std.proofs.Common.{◌+◌, ◌-◌, length, map, length-append, arith}
use Rattle.std.specs.Prelude.{ℤ, nat_lt, if◌then◌else◌}
use Rattle.std.proofs.Math.Path.{ap₂}
use Rattle.std.proofs.lemmas.List.Sums.{sum_by-cons}
use Rattle.face_data.specs.Goodness.{size_needles_in}
use Rattle.summary_compose.specs.Known.{names_count}
use Rattle.std.proofs.lemmas.List.{append-nil, length-map}
use Rattle.knit_base.specs.declared.needle.Needle.{Needle}
use Rattle.knit_base.specs.declared.yarns.CarrierNo.{CarrierNo}
use Rattle.knit_base.specs.declared.rule.Fault.{Fault}
use Rattle.face_data.specs.declared.bearing.Bearing.{Bearing}
use Rattle.face_data.specs.declared.bearing.Bearing.TheVariants.{Implied, Refuted, Silent}
use Rattle.face_data.specs.declared.digest.Digest.{Digest}
use Rattle.face_data.specs.declared.face.Cond.{Cond}
use Rattle.face_data.specs.declared.face.Cond.TheVariants.{RackIs, CarrierIn, CarrierOut, HookFree, HookIs, HookLacks, SizeAtMost, LastNear}
use Rattle.face_data.specs.Answers.{ConditionAnswer}
use Rattle.face_data.specs.Answers.ConditionAnswer.{asks, no_it_does_not}
use Rattle.face_data.specs.Composition.{from_bearing}
use Rattle.face_data.specs.Conditions.{Ask, ask_of}
use Rattle.face_data.specs.Conditions.Ask.{rack_is, carrier_in, carrier_out, hook_free, hook_is, hook_lacks, size_at_most, last_near}
use Rattle.face_data.specs.Digests.{digest_of, digest_with}
use Rattle.face_data.specs.Summaries.{AskedCondition}
use Rattle.face_data.proofs.Digests.{digest_of-push}
use Rattle.face_data.specs.Bearings.{if_so}
use Rattle.std.specs.List.{list_any}
use Rattle.summary_compose.specs.Known.{Knows, StepIs, IsPlainCond, answer_in, noted_answer, noted_left, notes_in, notes_of}
use Rattle.summary_compose.specs.Tables.{Note, note_suits}
use Rattle.summary_compose.specs.declared.sizes.SizeWord.{SizeWord}
use Rattle.summary_compose.specs.declared.sizes.SizeWord.TheVariants.{Holds, Fails, Asks}

-- a step by what the digest and the effect say
pub step_implied : (b rest : Bearing) (q : Ask) (kept now : List AskedCondition) (fault : Fault) → b ≡ Implied → now ≡ kept →
    StepIs (from_bearing b (from_bearing rest (asks q))) kept fault true now
step_implied b rest q kept now fault e same = subst (λ x. StepIs (from_bearing x (from_bearing rest (asks q))) kept fault true now) (sym e) (refl, same)

-- a condition that the effect refutes
pub step_refuted : (b rest : Bearing) (q : Ask) (kept now : List AskedCondition) (fault : Fault) → b ≡ Refuted → now ≡ kept →
    StepIs (from_bearing b (from_bearing rest (asks q))) kept fault false now
step_refuted b rest q kept now fault e same = subst (λ x. StepIs (from_bearing x (from_bearing rest (asks q))) kept fault false now) (sym e) (refl, same)

-- one of which the effect is silent
pub step_later : (b rest : Bearing) (q : Ask) (kept now : List AskedCondition) (fault : Fault) (goes_on : Bool) → b ≡ Silent → StepIs (from_bearing rest (asks q)) kept fault goes_on now →
    StepIs (from_bearing b (from_bearing rest (asks q))) kept fault goes_on now
step_later b rest q kept now fault goes_on e h = subst (λ x. StepIs (from_bearing x (from_bearing rest (asks q))) kept fault goes_on now) (sym e) h

-- one that the digest knows to hold
pub step_known : (b : Bearing) (q : Ask) (kept now : List AskedCondition) (fault : Fault) → b ≡ Implied → now ≡ kept → StepIs (from_bearing b (asks q)) kept fault true now
step_known b q kept now fault e same = subst (λ x. StepIs (from_bearing x (asks q)) kept fault true now) (sym e) (refl, same)

-- or not to hold
pub step_known_not : (b : Bearing) (q : Ask) (kept now : List AskedCondition) (fault : Fault) → b ≡ Refuted → now ≡ kept → StepIs (from_bearing b (asks q)) kept fault false now
step_known_not b q kept now fault e same = subst (λ x. StepIs (from_bearing x (asks q)) kept fault false now) (sym e) (refl, same)

-- one that is kept
pub step_kept : (b : Bearing) (q : Ask) (kept now : List AskedCondition) (fault : Fault) → b ≡ Silent → now ≡ kept ++ record { fault = fault; ask = q } ∷ [] →
    StepIs (from_bearing b (asks q)) kept fault true now
step_kept b q kept now fault e more = subst (λ x. StepIs (from_bearing x (asks q)) kept fault true now) (sym e) (refl, more)

plain_notes : (c : Cond) → IsPlainCond c → notes_in (ask_of [] c) ≡ []
plain_notes (SizeAtMost p most) plain = absurd plain
plain_notes (RackIs q) plain = refl
plain_notes (CarrierIn c) plain = refl
plain_notes (CarrierOut c) plain = refl
plain_notes HookFree plain = refl
plain_notes (HookIs set) plain = refl
plain_notes (HookLacks c) plain = refl
plain_notes (LastNear c at float) plain = absurd plain

pub notes_push : (kept : List AskedCondition) (c : AskedCondition) → notes_of (kept ++ c ∷ []) ≡ notes_of kept ++ notes_in c.ask
notes_push kept c = flat_map-append (λ (c : AskedCondition). notes_in c.ask) kept (c ∷ []) ∙ ap (λ ns. notes_of kept ++ ns) (append-nil (notes_in c.ask))

-- nothing new is known
pub knows_same : (old now : Digest) (notes more : List Note) (kept checks : List AskedCondition) → now ≡ old → more ≡ notes → checks ≡ kept → Knows old notes kept → Knows now more checks
knows_same old now notes more kept checks d n k h = record {
  digest_is = d ∙ h.digest_is ∙ ap digest_of (sym k);
  notes_are = n ∙ h.notes_are ∙ ap notes_of (sym k);
}

-- a condition that is not on sizes is known from now on
pub knows_plain : (old now : Digest) (notes : List Note) (kept checks : List AskedCondition) (fault : Fault) (c : Cond) → IsPlainCond c → now ≡ digest_with old (ask_of [] c) →
    checks ≡ kept ++ record { fault = fault; ask = ask_of [] c } ∷ [] → Knows old notes kept → Knows now notes checks
knows_plain old now notes kept checks fault c plain d k h =
    let new : AskedCondition = record { fault = fault; ask = ask_of [] c } in
    record {
      digest_is = d ∙ ap (λ x. digest_with x (ask_of [] c)) h.digest_is ∙ sym (digest_of-push kept new) ∙ ap digest_of (sym k);
      notes_are = h.notes_are ∙ sym (append-nil (notes_of kept)) ∙ ap (λ ns. notes_of kept ++ ns) (sym (plain_notes c plain)) ∙ sym (notes_push kept new) ∙ ap notes_of (sym k);
    }

noted_size : (d : Digest) (names : List Needle) (most : ℕ) → digest_with d (size_at_most names most) ≡ d
unfolding digest_with
noted_size d names most = refl

-- and so is one on sizes
pub knows_size : (digest : Digest) (notes more : List Note) (kept checks : List AskedCondition) (fault : Fault) (names : List Needle) (most : ℕ) →
    more ≡ notes ++ notes_in (size_at_most names most) → checks ≡ kept ++ record { fault = fault; ask = size_at_most names most } ∷ [] → Knows digest notes kept → Knows digest more checks
knows_size digest notes more kept checks fault names most n k h =
    let new : AskedCondition = record { fault = fault; ask = size_at_most names most } in
    record {
      digest_is = h.digest_is ∙ sym (noted_size (digest_of kept) names most) ∙ sym (digest_of-push kept new) ∙ ap digest_of (sym k);
      notes_are = n ∙ ap (λ ns. ns ++ notes_in (size_at_most names most)) h.notes_are ∙ sym (notes_push kept new) ∙ ap notes_of (sym k);
    }

-- one needle on which no new loops stand
pub noted_own : (notes : List Note) (n : Needle) (most : ℕ) → noted_answer notes (n ∷ []) 0 most ≡ noted_left notes (n ∷ []) most
unfolding noted_answer
noted_own notes n most =
    let enough : nat_lt most 0 ≡ false = grind arith in
    let all : most - 0 ≡ most = grind arith in
    ap (λ b. if b then no_it_does_not else noted_left notes (n ∷ []) (most - 0)) enough ∙ ap (noted_left notes (n ∷ [])) all

-- a condition on one needle that the notes don't imply
pub step_own : (notes : List Note) (kept now : List AskedCondition) (fault : Fault) (n : Needle) (most : ℕ) →
    list_any (note_suits n 1 most) notes ≡ false → now ≡ kept ++ record { fault = fault; ask = size_at_most (n ∷ []) most } ∷ [] →
    StepIs (noted_answer notes (n ∷ []) 0 most) kept fault true now
step_own notes kept now fault n most none is =
    subst (λ x. StepIs x kept fault true now) (sym (noted_own notes n most))
    (subst (λ b. StepIs (from_bearing (if_so b Implied) (asks (size_at_most (n ∷ []) most))) kept fault true now) (sym none) (refl, is))

-- a step by what is known of a condition on sizes
pub step_size_holds : (answer : ConditionAnswer) (names : List Needle) (word : SizeWord) (kept now : List AskedCondition) (fault : Fault) → answer ≡ answer_in names word → word ≡ Holds → now ≡ kept → StepIs answer kept fault true now
step_size_holds answer names word kept now fault e w same = subst (λ x. StepIs x kept fault true now) (sym (e ∙ ap (answer_in names) w)) (refl, same)

-- a condition on sizes that can't hold
pub step_size_fails : (answer : ConditionAnswer) (names : List Needle) (word : SizeWord) (kept now : List AskedCondition) (fault : Fault) → answer ≡ answer_in names word → word ≡ Fails → now ≡ kept → StepIs answer kept fault false now
step_size_fails answer names word kept now fault e w same = subst (λ x. StepIs x kept fault false now) (sym (e ∙ ap (answer_in names) w)) (refl, same)

-- and one that is kept
pub step_size_asks : (answer : ConditionAnswer) (names : List Needle) (word : SizeWord) (left : ℕ) (kept now : List AskedCondition) (fault : Fault) → answer ≡ answer_in names word → word ≡ Asks left →
    now ≡ kept ++ record { fault = fault; ask = size_at_most names left } ∷ [] → StepIs answer kept fault true now
step_size_asks answer names word left kept now fault e w more = subst (λ x. StepIs x kept fault true now) (sym (e ∙ ap (answer_in names) w)) (refl, more)

notes_length_on : (names : List Needle) (len most : ℕ) → length {A = Note} (map (λ n. record { needle = n; len = len; most = most }) names) ≡ length names
notes_length_on names len most = let one : Needle → Note = λ n. record { needle = n; len = len; most = most } in length-map names one

ask_notes_length : (q : Ask) → length (notes_in q) ≡ length (size_needles_in q)
ask_notes_length (size_at_most names most) = notes_length_on names (length names) most
ask_notes_length (rack_is q) = refl
ask_notes_length (carrier_in c) = refl
ask_notes_length (carrier_out c) = refl
ask_notes_length hook_free = refl
ask_notes_length (hook_is set) = refl
ask_notes_length (hook_lacks c) = refl
ask_notes_length (last_near c at float) = refl

-- as many notes as needles that the kept conditions name
pub notes_length : (kept : List AskedCondition) → length (notes_of kept) ≡ names_count kept
notes_length [] = refl
notes_length (c ∷ cs) =
    length-append (notes_in c.ask) (notes_of cs) ∙ ap₂ (λ (n m : ℕ). n + m) (ask_notes_length c.ask) (notes_length cs)
    ∙ sym (sum_by-cons (λ (c : AskedCondition). length (size_needles_in c.ask)) c cs)

-- there is a note for each needle that is named
pub known_length : (digest : Digest) (notes : List Note) (kept : List AskedCondition) → Knows digest notes kept → length notes ≡ names_count kept
known_length digest notes kept h = ap length h.notes_are ∙ notes_length kept

noted_near : (d : Digest) (c : CarrierNo) (at : ℤ) (float : ℕ) → digest_with d (last_near c at float) ≡ d
unfolding digest_with
noted_near d c at float = refl

-- and one on a last needle, of which neither digest nor notes tell
pub knows_near : (digest : Digest) (notes : List Note) (kept checks : List AskedCondition) (fault : Fault) (c : CarrierNo) (at : ℤ) (float : ℕ) →
    checks ≡ kept ++ record { fault = fault; ask = last_near c at float } ∷ [] → Knows digest notes kept → Knows digest notes checks
knows_near digest notes kept checks fault c at float k h =
    let new : AskedCondition = record { fault = fault; ask = last_near c at float } in
    record {
      digest_is = h.digest_is ∙ sym (noted_near (digest_of kept) c at float) ∙ sym (digest_of-push kept new) ∙ ap digest_of (sym k);
      notes_are = h.notes_are ∙ sym (append-nil (notes_of kept)) ∙ sym (notes_push kept new) ∙ ap notes_of (sym k);
    }
