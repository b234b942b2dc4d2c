-- What a digest says of a condition is what the conditions that it was made of say.
use Rattle.std.proofs.Common.{◌≡◌, ℕ, ◌^◌, Bool, true, false, not, ◌||◌, List, [], ◌∷◌, ◌++◌, Option, Some, None, refl, sym, ap, ◌∙◌, fold, bit_or}
use Rattle.std.specs.Prelude.{nat_eq, if◌then◌else◌}
use Rattle.std.specs.Int.{bit_at}
use Rattle.std.specs.Ordering.{int_eq}
use Rattle.std.proofs.lemmas.Bool.{eqb-true, eqb-false}
use Rattle.std.proofs.lemmas.List.Sums.{fold-append}
use Rattle.std.proofs.lemmas.Nat.Bits.{bit_at-pow_same, bit_at-pow_other, bit_at-zero}
use Rattle.knit_base.specs.declared.yarns.CarrierNo.{CarrierNo}
use Rattle.knit_base.specs.Yarns.{contains_carrier, lacks_carrier}
use Rattle.face_data.specs.declared.bearing.Bearing.{Bearing}
use Rattle.face_data.specs.declared.bearing.Bearing.TheVariants.{Implied, Refuted, Silent}
use Rattle.face_data.specs.declared.digest.Digest.{Digest}
use Rattle.face_data.specs.declared.face.Effect.{Effect}
use Rattle.face_data.specs.declared.face.Last.{Last}
use Rattle.face_data.specs.Answers.{ConditionAnswer, answer_of, where_known, read_answer}
use Rattle.face_data.specs.Segments.{Changed}
use Rattle.face_data.specs.Answers.ConditionAnswer.{yes_it_does, no_it_does_not, asks}
use Rattle.face_data.specs.Bearings.{bearing, if_so, same_or_not}
use Rattle.face_data.specs.Composition.{from_bearing, answer_of_kept}
use Rattle.face_data.specs.Conditions.{Ask}
use Rattle.face_data.specs.Conditions.Ask.{rack_is, carrier_in, carrier_out, hook_free, hook_is, hook_lacks, size_at_most, last_near}
use Rattle.face_data.specs.Digests.{blank_digest, digest_with, digest_of, bearing_by, digest_bearing, effect_bearing, IsPlainCondition}
use Rattle.face_data.specs.Summaries.{AskedCondition}
use Rattle.face_data.specs.Goodness.{IsIrredundant}
use Rattle.face_data.proofs.Carriers.{has-bit_or}
use Rattle.face_data.proofs.Members.{Contains-head, Contains-tail}
use Rattle.std.proofs.Math.Path.{ap₂}
use Rattle.std.specs.List.{Contains}

-- what the one says, or else the other
abbrev pub or_said : Bearing → Bearing → Bearing
or_said Implied other = Implied
or_said Refuted other = Refuted
or_said Silent other = other

silent_last : (r : Bearing) → r ≡ or_said r Silent
silent_last Implied = refl
silent_last Refuted = refl
silent_last Silent = refl

-- a set of one carrier
alone_cases : (c d : CarrierNo) (b : Bool) → nat_eq c.0 d.0 ≡ b → contains_carrier (2 ^ c.0) d ≡ b
alone_cases c d true same = ap (λ i. nat_eq (bit_at (2 ^ c.0) i) 1) (sym (eqb-true c.0 d.0 same)) ∙ ap (λ n. nat_eq n 1) (bit_at-pow_same c.0)
alone_cases c d false other = ap (λ n. nat_eq n 1) (bit_at-pow_other c.0 d.0 (λ same. eqb-false c.0 d.0 other (sym same)))

alone : (c d : CarrierNo) → contains_carrier (2 ^ c.0) d ≡ nat_eq c.0 d.0
alone c d = alone_cases c d (nat_eq c.0 d.0) refl

-- a set with one carrier more
with-one : (set : ℕ) (c d : CarrierNo) → contains_carrier (bit_or set (2 ^ c.0)) d ≡ (contains_carrier set d || nat_eq c.0 d.0)
with-one set c d = has-bit_or set (2 ^ c.0) d ∙ ap (λ b. contains_carrier set d || b) (alone c d)

-- tests of a carrier in two sets, where one more is in the first or in the second
one_more_for : (has lacks same : Bool) → (same ≡ true → lacks ≡ false) →
    (if has || same then Implied else if_so lacks Refuted) ≡ or_said (if has then Implied else if_so lacks Refuted) (if_so same Implied)
one_more_for true lacks same other = refl
one_more_for false lacks true other = ap (λ b. or_said (if_so b Refuted) Implied) (sym (other refl))
one_more_for false true false other = refl
one_more_for false false false other = refl

one_more_against : (has lacks same : Bool) →
    (if has then Implied else if_so (lacks || same) Refuted) ≡ or_said (if has then Implied else if_so lacks Refuted) (if_so same Refuted)
one_more_against true lacks same = refl
one_more_against false true same = refl
one_more_against false false true = refl
one_more_against false false false = refl

implied_anyway : (b : Bool) → Implied ≡ or_said (if_so b Implied) Implied
implied_anyway true = refl
implied_anyway false = refl

hook_lacks_anyway : (hook : Option ℕ) (c : CarrierNo) → Implied ≡ or_said (bearing_by hook (λ held. if_so (lacks_carrier held c) Implied)) Implied
hook_lacks_anyway None c = refl
hook_lacks_anyway (Some held) c = implied_anyway (lacks_carrier held c)

one_more_lacks : (has same : Bool) (hook : Option ℕ) (c : CarrierNo) →
    (if has || same then Implied else bearing_by hook (λ held. if_so (lacks_carrier held c) Implied))
    ≡ or_said (if has then Implied else bearing_by hook (λ held. if_so (lacks_carrier held c) Implied)) (if_so same Implied)
one_more_lacks true same hook c = refl
one_more_lacks false true hook c = hook_lacks_anyway hook c
one_more_lacks false false hook c = silent_last (bearing_by hook (λ held. if_so (lacks_carrier held c) Implied))

-- a digest that says nothing of a condition
neither : (has lacks : Bool) → (if has then Implied else if_so lacks Refuted) ≡ Silent → (has ≡ false) × (lacks ≡ false)
neither true lacks silence = absurd (cc)
neither false true silence = absurd (cc)
neither false false silence = (refl, refl)

-- the same value or another: that is something
pub not_silent : (b : Bool) → same_or_not b ≡ Silent → ⊥
not_silent true silence = cc
not_silent false silence = cc

not_known : {X : Type 0} (o : Option X) (test : X → Bool) → bearing_by o (λ x. same_or_not (test x)) ≡ Silent → o ≡ None
not_known None test silence = refl
not_known (Some x) test silence = absurd (not_silent (test x) silence)

known_now : {X : Type 0} (o : Option X) (says : X → Bearing) (new : Bearing) → o ≡ None → new ≡ or_said (bearing_by o says) new
known_now None says new none = refl
known_now (Some x) says new none = absurd (cc)

lacks_now : (has : Bool) (hook : Option ℕ) (set : ℕ) (c : CarrierNo) → hook ≡ None →
    (if has then Implied else if_so (lacks_carrier set c) Implied)
    ≡ or_said (if has then Implied else bearing_by hook (λ held. if_so (lacks_carrier held c) Implied)) (if_so (lacks_carrier set c) Implied)
lacks_now true hook set c none = refl
lacks_now false hook set c none = known_now hook (λ held. if_so (lacks_carrier held c) Implied) (if_so (lacks_carrier set c) Implied) none

nothing_lacks : (c : CarrierNo) → if_so (lacks_carrier 0 c) Implied ≡ Implied
nothing_lacks c = ap (λ n. if_so (not (nat_eq n 1)) Implied) (bit_at-zero c.0)

same_carrier : (set : ℕ) (c d : CarrierNo) → contains_carrier set c ≡ false → nat_eq c.0 d.0 ≡ true → contains_carrier set d ≡ false
same_carrier set c d none same = ap (λ i. nat_eq (bit_at set i) 1) (sym (eqb-true c.0 d.0 same)) ∙ none

-- one more condition: what the digest said, or else what the new condition says
pub digest_bearing-noted : (digest : Digest) (p q : Ask) → digest_bearing digest p ≡ Silent → IsPlainCondition q → digest_bearing (digest_with digest p) q ≡ or_said (digest_bearing digest q) (bearing p q)
unfolding digest_bearing digest_with bearing
digest_bearing-noted digest p (size_at_most names most) silence plain = absurd plain
digest_bearing-noted digest p (last_near c at float) silence plain = absurd plain
digest_bearing-noted digest (size_at_most names most) q silence plain = silent_last (digest_bearing digest q)
digest_bearing-noted digest (last_near c at float) q silence plain = silent_last (digest_bearing digest q)
digest_bearing-noted digest (rack_is x) (rack_is y) silence plain =
    known_now digest.rack (λ p. same_or_not (int_eq p.0 y)) (same_or_not (int_eq x y)) (not_known digest.rack (λ p. int_eq p.0 x) silence)
digest_bearing-noted digest (carrier_in c) (carrier_in d) silence plain =
    let out : contains_carrier digest.outs c ≡ false = (neither (contains_carrier digest.ins c) (contains_carrier digest.outs c) silence).1 in
    ap (λ b. if b then Implied else if_so (contains_carrier digest.outs d) Refuted) (with-one digest.ins c d)
    ∙ one_more_for (contains_carrier digest.ins d) (contains_carrier digest.outs d) (nat_eq c.0 d.0) (same_carrier digest.outs c d out)
digest_bearing-noted digest (carrier_in c) (carrier_out d) silence plain =
    ap (λ b. if contains_carrier digest.outs d then Implied else if_so b Refuted) (with-one digest.ins c d)
    ∙ one_more_against (contains_carrier digest.outs d) (contains_carrier digest.ins d) (nat_eq c.0 d.0)
digest_bearing-noted digest (carrier_out c) (carrier_out d) silence plain =
    let out : contains_carrier digest.ins c ≡ false = (neither (contains_carrier digest.outs c) (contains_carrier digest.ins c) silence).1 in
    ap (λ b. if b then Implied else if_so (contains_carrier digest.ins d) Refuted) (with-one digest.outs c d)
    ∙ one_more_for (contains_carrier digest.outs d) (contains_carrier digest.ins d) (nat_eq c.0 d.0) (same_carrier digest.ins c d out)
digest_bearing-noted digest (carrier_out c) (carrier_in d) silence plain =
    ap (λ b. if contains_carrier digest.ins d then Implied else if_so b Refuted) (with-one digest.outs c d)
    ∙ one_more_against (contains_carrier digest.ins d) (contains_carrier digest.outs d) (nat_eq c.0 d.0)
digest_bearing-noted digest hook_free hook_free silence plain =
    known_now digest.hook (λ held. same_or_not (nat_eq held 0)) Implied (not_known digest.hook (λ held. nat_eq held 0) silence)
digest_bearing-noted digest hook_free (hook_is set) silence plain =
    known_now digest.hook (λ held. same_or_not (nat_eq held set)) (same_or_not (nat_eq 0 set)) (not_known digest.hook (λ held. nat_eq held 0) silence)
digest_bearing-noted digest hook_free (hook_lacks c) silence plain =
    lacks_now (contains_carrier digest.lacks c) digest.hook 0 c (not_known digest.hook (λ held. nat_eq held 0) silence)
    ∙ ap (or_said (if contains_carrier digest.lacks c then Implied else bearing_by digest.hook (λ held. if_so (lacks_carrier held c) Implied))) (nothing_lacks c)
digest_bearing-noted digest (hook_is x) hook_free silence plain =
    known_now digest.hook (λ held. same_or_not (nat_eq held 0)) (same_or_not (nat_eq x 0)) (not_known digest.hook (λ held. nat_eq held x) silence)
digest_bearing-noted digest (hook_is x) (hook_is set) silence plain =
    known_now digest.hook (λ held. same_or_not (nat_eq held set)) (same_or_not (nat_eq x set)) (not_known digest.hook (λ held. nat_eq held x) silence)
digest_bearing-noted digest (hook_is x) (hook_lacks c) silence plain =
    lacks_now (contains_carrier digest.lacks c) digest.hook x c (not_known digest.hook (λ held. nat_eq held x) silence)
digest_bearing-noted digest (hook_lacks c) (hook_lacks d) silence plain =
    ap (λ b. if b then Implied else bearing_by digest.hook (λ held. if_so (lacks_carrier held d) Implied)) (with-one digest.lacks c d)
    ∙ one_more_lacks (contains_carrier digest.lacks d) (nat_eq c.0 d.0) digest.hook d
digest_bearing-noted digest p q silence plain = silent_last (digest_bearing digest q)

-- a blank digest says nothing
nobody : (c : CarrierNo) (r : Bearing) → (if contains_carrier 0 c then Implied else if_so (contains_carrier 0 c) Refuted) ≡ Silent
nobody c r = ap (λ n. if nat_eq n 1 then Implied else if_so (nat_eq n 1) Refuted) (bit_at-zero c.0)

-- a blank digest says nothing of any condition
pub digest_bearing-blank : (q : Ask) → digest_bearing blank_digest q ≡ Silent
unfolding digest_bearing
digest_bearing-blank (rack_is x) = refl
digest_bearing-blank (carrier_in c) = nobody c Silent
digest_bearing-blank (carrier_out c) = nobody c Silent
digest_bearing-blank hook_free = refl
digest_bearing-blank (hook_is set) = refl
digest_bearing-blank (hook_lacks c) = ap (λ n. if nat_eq n 1 then Implied else Silent) (bit_at-zero c.0)
digest_bearing-blank (size_at_most names most) = refl
digest_bearing-blank (last_near c at float) = refl

-- the digest of conditions of which the digest so far says nothing, nor each of a later one
said_so_far : (r s : Bearing) (rest : ConditionAnswer) → from_bearing (or_said r s) rest ≡ from_bearing r (from_bearing s rest)
said_so_far Implied s rest = refl
said_so_far Refuted s rest = refl
said_so_far Silent s rest = refl

still_silent : (digest : Digest) (p q : Ask) → digest_bearing digest p ≡ Silent → digest_bearing digest q ≡ Silent → bearing p q ≡ Silent → digest_bearing (digest_with digest p) q ≡ Silent
unfolding digest_bearing
still_silent digest p (size_at_most names most) so_p so_q none = refl
still_silent digest p (last_near c at float) so_p so_q none = refl
still_silent digest p (rack_is x) so_p so_q none = digest_bearing-noted digest p (rack_is x) so_p tt ∙ ap₂ or_said so_q none
still_silent digest p (carrier_in x) so_p so_q none = digest_bearing-noted digest p (carrier_in x) so_p tt ∙ ap₂ or_said so_q none
still_silent digest p (carrier_out x) so_p so_q none = digest_bearing-noted digest p (carrier_out x) so_p tt ∙ ap₂ or_said so_q none
still_silent digest p hook_free so_p so_q none = digest_bearing-noted digest p hook_free so_p tt ∙ ap₂ or_said so_q none
still_silent digest p (hook_is x) so_p so_q none = digest_bearing-noted digest p (hook_is x) so_p tt ∙ ap₂ or_said so_q none
still_silent digest p (hook_lacks x) so_p so_q none = digest_bearing-noted digest p (hook_lacks x) so_p tt ∙ ap₂ or_said so_q none

digest_bearing-all : (digest : Digest) (kept : List AskedCondition) (q : Ask) → IsPlainCondition q → ((c : AskedCondition) → Contains kept c → digest_bearing digest c.ask ≡ Silent) → IsIrredundant kept →
    from_bearing (digest_bearing (fold (λ d (c : AskedCondition). digest_with d c.ask) digest kept) q) (asks q) ≡ from_bearing (digest_bearing digest q) (answer_of_kept kept q)
unfolding answer_of_kept
digest_bearing-all digest [] q plain new alone_each = refl
digest_bearing-all digest (c ∷ cs) q plain new alone_each =
    let here = new c (Contains-head c cs) in
    digest_bearing-all (digest_with digest c.ask) cs q plain (λ d there. still_silent digest c.ask d.ask here (new d (Contains-tail c cs d there)) (alone_each.0 d there)) alone_each.1
    ∙ ap (λ r. from_bearing r (answer_of_kept cs q)) (digest_bearing-noted digest c.ask q here plain)
    ∙ said_so_far (digest_bearing digest q) (bearing c.ask q) (answer_of_kept cs q)

-- What irredundant conditions say of a condition that isn't on sizes is what their digest says.
pub settled-plain : (kept : List AskedCondition) (q : Ask) → IsPlainCondition q → IsIrredundant kept → answer_of_kept kept q ≡ from_bearing (digest_bearing (digest_of kept) q) (asks q)
settled-plain kept q plain each =
    sym (digest_bearing-all blank_digest kept q plain (λ c there. digest_bearing-blank c.ask) each ∙ ap (λ r. from_bearing r (answer_of_kept kept q)) (digest_bearing-blank q))

-- the digest with one condition more
pub digest_of-push : (kept : List AskedCondition) (c : AskedCondition) → digest_of (kept ++ c ∷ []) ≡ digest_with (digest_of kept) c.ask
digest_of-push kept c = fold-append (λ d (x : AskedCondition). digest_with d x.ask) blank_digest kept (c ∷ [])

known_answer : {X : Type 0} (o : Option X) (test : X → Bool) (q : Ask) → where_known o test q ≡ from_bearing (bearing_by o (λ x. same_or_not (test x))) (asks q)
known_answer None test q = refl
known_answer (Some x) test q = go (test x)
  where
    go : (b : Bool) → answer_of b ≡ from_bearing (same_or_not b) (asks q)
    go true = refl
    go false = refl

came_answer : (came went : Bool) (q : Ask) →
    (if came then yes_it_does else (if went then no_it_does_not else asks q)) ≡ from_bearing (if came then Implied else if_so went Refuted) (asks q)
came_answer true went q = refl
came_answer false true q = refl
came_answer false false q = refl

went_answer : (came went : Bool) (q : Ask) →
    (if came then no_it_does_not else (if went then yes_it_does else asks q)) ≡ from_bearing (if came then Refuted else if_so went Implied) (asks q)
went_answer true went q = refl
went_answer false true q = refl
went_answer false false q = refl

-- A condition that isn't on sizes, read through a block, is known by the block's effect, or left as it is.
pub read-plain : (e : Effect) (la : List Last) (changes : List Changed) (q : Ask) → IsPlainCondition q → read_answer e la changes q ≡ from_bearing (effect_bearing e q) (asks q)
unfolding read_answer effect_bearing
read-plain e la changes (size_at_most names most) plain = absurd plain
read-plain e la changes (last_near c at float) plain = absurd plain
read-plain e la changes (rack_is q) plain = known_answer e.rack (λ r. int_eq r.0 q) (rack_is q)
read-plain e la changes (carrier_in c) plain = came_answer (contains_carrier e.came c) (contains_carrier e.went c) (carrier_in c)
read-plain e la changes (carrier_out c) plain = went_answer (contains_carrier e.came c) (contains_carrier e.went c) (carrier_out c)
read-plain e la changes hook_free plain = known_answer e.hook (λ held. nat_eq held 0) hook_free
read-plain e la changes (hook_is set) plain = known_answer e.hook (λ held. nat_eq held set) (hook_is set)
read-plain e la changes (hook_lacks c) plain = known_answer e.hook (λ held. lacks_carrier held c) (hook_lacks c)
