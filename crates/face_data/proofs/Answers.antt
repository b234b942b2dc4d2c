-- A condition asked after a first block, as one on the state at its entry.
use Rattle.std.proofs.Common.{◌≡◌, ℕ, ◌+◌, ◌-◌, ◌≤◌, ◌<◌, Bool, true, false, not, ◌&&◌, ◌||◌, List, [], ◌∷◌, length, Option, Some, None, refl, sym, ap, ◌∙◌, arith}
use Rattle.std.specs.Prelude.{nat_eq, nat_le, nat_lt, if◌then◌else◌, ℤ, unwrap_or}
use Rattle.std.specs.Ordering.{int_eq}
use Rattle.std.proofs.lemmas.Bool.{le-leb, lt-leb, leb-true, leb-false, ltb-true, ltb-false, lt-ltb, le-ltb}
use Rattle.carriage_model.specs.State.{State, is_near}
use Rattle.face_data.specs.declared.face.Last.{Last}
use Rattle.face_data.specs.Lasts.{last_at}
use Rattle.knit_base.specs.Yarns.{contains_carrier, without_set}
use Rattle.face_data.specs.Conditions.{Ask, size_of, holds}
use Rattle.face_data.specs.Segments.{Changed, names_through, new_through}
use Rattle.face_data.specs.Summaries.{state_after_changes, rack_after_effect}
use Rattle.face_data.specs.Conditions.Ask.{rack_is, carrier_in, carrier_out, hook_free, hook_is, hook_lacks, size_at_most, last_near}
use Rattle.face_data.specs.Answers.{ConditionAnswer, answer_of, size_left, size_answer, where_known, near_answer, read_answer}
use Rattle.face_data.specs.Answers.ConditionAnswer.{yes_it_does, no_it_does_not, asks}
use Rattle.knit_base.specs.declared.yarns.CarrierNo.{CarrierNo}
use Rattle.face_data.proofs.SizeConditions.{size-now}
use Rattle.face_data.proofs.Carriers.{has-bit_or, has-without}
use Rattle.knit_base.specs.declared.needle.Needle.{Needle}
use Rattle.face_data.specs.declared.face.Effect.{Effect}
use Rattle.knit_base.specs.declared.instr.Quarter.{Quarter}

-- how many loops the needles hold after the first block
pub size_of-through : (s : State) (first : ℕ) (e : Effect) (la : List Last) (a : List Changed) (names : List Needle) →
    size_of names (state_after_changes e la a s first) ≡ size_of (names_through a names) s + new_through a names
size_of-through s first e la a names = size-now a s (state_after_changes e la a s first) first names (λ n. refl)

-- what an answer says in the state at the first block's entry
unfoldable pub meaning : ConditionAnswer → State → Bool
meaning yes_it_does s = true
meaning no_it_does_not s = false
meaning (asks q) s = holds q s

meaning-answer_of : (b : Bool) (s : State) → meaning (answer_of b) s ≡ b
unfolding meaning
meaning-answer_of true s = refl
meaning-answer_of false s = refl

size_left_meaning : (names : List Needle) (most : ℕ) (s : State) → meaning (size_left names most) s ≡ nat_le (size_of names s) most
unfolding meaning
size_left_meaning [] most s = sym (le-leb 0 most (omega arith))
size_left_meaning (n ∷ names) most s = refl

moved_across : (size new most : ℕ) (b : Bool) → new ≤ most → nat_le size (most - new) ≡ b → b ≡ nat_le (size + new) most
moved_across size new most true h e = sym (le-leb (size + new) most (omega (arith, h, leb-true size (most - new) e)))
moved_across size new most false h e = sym (lt-leb (size + new) most (omega (arith, h, leb-false size (most - new) e)))

size_answer_cases : (names : List Needle) (new most : ℕ) (s : State) (b : Bool) → nat_lt most new ≡ b →
    meaning (if b then no_it_does_not else size_left names (most - new)) s ≡ nat_le (size_of names s + new) most
unfolding meaning
size_answer_cases names new most s true e = sym (lt-leb (size_of names s + new) most (omega (arith, ltb-true most new e)))
size_answer_cases names new most s false e =
    size_left_meaning names (most - new) s
    ∙ moved_across (size_of names s) new most (nat_le (size_of names s) (most - new)) (ltb-false most new e) refl

-- One size condition read_seg through the first block: the needles' own loops, and the new ones taken off.
pub size_answer_meaning : (names : List Needle) (new most : ℕ) (s : State) →
    meaning (size_answer names new most) s ≡ nat_le (size_of names s + new) most
unfolding size_answer
size_answer_meaning names new most s = size_answer_cases names new most s (nat_lt most new) refl

rack_meaning : (r : Option Quarter) (q old : ℤ) (s : State) → s.rack ≡ old →
    meaning (where_known r (λ x. int_eq x.0 q) (rack_is q)) s ≡ int_eq (rack_after_effect r old) q
unfolding meaning
rack_meaning None q old s e = ap (λ x. int_eq x q) e
rack_meaning (Some r) q old s e = meaning-answer_of (int_eq r.0 q) s

hook_meaning : (h : Option ℕ) (test : ℕ → Bool) (q : Ask) (s : State) → meaning (asks q) s ≡ test s.hook →
    meaning (where_known h test q) s ≡ test (unwrap_or h s.hook)
hook_meaning None test q s e = e
hook_meaning (Some h) test q s e = meaning-answer_of (test h) s

or-true : (b : Bool) → (b || true) ≡ true
or-true true = refl
or-true false = refl

in_meaning : (came went old : Bool) (q : Ask) (s : State) → meaning (asks q) s ≡ old →
    meaning (if came then yes_it_does else (if went then no_it_does_not else asks q)) s ≡ ((old && not went) || came)
unfolding meaning
in_meaning true went old q s e = sym (or-true (old && not went))
in_meaning false true true q s e = refl
in_meaning false true false q s e = refl
in_meaning false false true q s e = e
in_meaning false false false q s e = e

out_meaning : (came went old : Bool) (q : Ask) (s : State) → meaning (asks q) s ≡ not old →
    meaning (if came then no_it_does_not else (if went then yes_it_does else asks q)) s ≡ not ((old && not went) || came)
unfolding meaning
out_meaning true went old q s e = sym (ap not (or-true (old && not went)))
out_meaning false true true q s e = refl
out_meaning false true false q s e = refl
out_meaning false false true q s e = e
out_meaning false false false q s e = e

has-after : (e : Effect) (la : List Last) (a : List Changed) (s : State) (first : ℕ) (c : CarrierNo) →
    contains_carrier (state_after_changes e la a s first).ins c ≡ ((contains_carrier s.ins c && not (contains_carrier e.went c)) || contains_carrier e.came c)
has-after e la a s first c =
    has-bit_or (without_set s.ins e.went) e.came c ∙ ap (λ b. b || contains_carrier e.came c) (has-without s.ins e.went c)

near_meaning : (o : Option (Option ℤ)) (old : Option ℤ) (q : Ask) (at : ℤ) (float : ℕ) (s : State) → meaning (asks q) s ≡ is_near float old at →
    meaning (near_answer o q at float) s ≡ is_near float (unwrap_or o old) at
near_meaning None old q at float s e = e
near_meaning (Some last) old q at float s e = meaning-answer_of (is_near float last at) s

-- What a condition says after the first block is what its answer says at the entry.
pub read_answer_meaning : (e : Effect) (la : List Last) (a : List Changed) (q : Ask) (s : State) (first : ℕ) →
    meaning (read_answer e la a q) s ≡ holds q (state_after_changes e la a s first)
unfolding read_answer meaning
read_answer_meaning e la a (rack_is q) s first = rack_meaning e.rack q s.rack s refl
read_answer_meaning e la a (carrier_in c) s first = in_meaning (contains_carrier e.came c) (contains_carrier e.went c) (contains_carrier s.ins c) (carrier_in c) s refl ∙ sym (has-after e la a s first c)
read_answer_meaning e la a (carrier_out c) s first = out_meaning (contains_carrier e.came c) (contains_carrier e.went c) (contains_carrier s.ins c) (carrier_out c) s refl ∙ ap not (sym (has-after e la a s first c))
read_answer_meaning e la a hook_free s first = hook_meaning e.hook (λ h. nat_eq h 0) hook_free s refl
read_answer_meaning e la a (hook_is set) s first = hook_meaning e.hook (λ h. nat_eq h set) (hook_is set) s refl
read_answer_meaning e la a (hook_lacks c) s first = hook_meaning e.hook (λ h. not (contains_carrier h c)) (hook_lacks c) s refl
read_answer_meaning e la a (size_at_most names most) s first =
    size_answer_meaning (names_through a names) (new_through a names) most s
    ∙ ap (λ k. nat_le k most) (sym (size_of-through s first e la a names))
read_answer_meaning e la a (last_near c at float) s first = near_meaning (last_at la c) (s.lasts c) (last_near c at float) at float s refl

size_decided : (names : List Needle) (new most : ℕ) (b : Bool) → nat_lt most new ≡ b → size_answer names new most ≡ (if b then no_it_does_not else size_left names (most - new))
unfolding size_answer
size_decided names new most b e = ap (λ t. if t then no_it_does_not else size_left names (most - new)) e

-- more new loops than are allowed
pub size_answer_over : (names : List Needle) (new most : ℕ) → most < new → no_it_does_not ≡ size_answer names new most
size_answer_over names new most h = sym (size_decided names new most true (lt-ltb most new h))

-- no needle is left to ask
pub size_answer_none : (names : List Needle) (new most : ℕ) → new ≤ most → length names ≡ 0 → yes_it_does ≡ size_answer names new most
size_answer_none [] new most h e = sym (size_decided [] new most false (le-ltb most new h))
size_answer_none (n ∷ names) new most h e = absurd (omega arith)

-- needles are left to ask
pub size_answer_some : (names : List Needle) (new most : ℕ) → new ≤ most → 1 ≤ length names → asks (size_at_most names (most - new)) ≡ size_answer names new most
size_answer_some [] new most h e = absurd (omega arith)
size_answer_some (n ∷ names) new most h e = sym (size_decided (n ∷ names) new most false (le-ltb most new h))
