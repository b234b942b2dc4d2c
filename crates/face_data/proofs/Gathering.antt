-- All conditions of the second block, one after the other: which are kept, and where the run is known to stop.
use Rattle.std.proofs.Common.{◌≡◌, ℕ, Bool, true, false, List, [], ◌∷◌, ◌++◌, Option, Some, None, refl, sym, ap, ◌∙◌, subst}
use Rattle.std.specs.Prelude.{if◌then◌else◌}
use Rattle.std.specs.Option.{option_map}
use Rattle.carriage_model.specs.State.{State}
use Rattle.face_data.specs.Conditions.{Ask, holds}
use Rattle.face_data.specs.Summaries.{AskedCondition, first_fault, state_after_changes, fault_raised}
use Rattle.face_data.specs.Segments.{Changed}
use Rattle.face_data.proofs.Answers.{meaning, read_answer_meaning}
use Rattle.face_data.specs.Answers.{ConditionAnswer, read_answer}
use Rattle.face_data.specs.Answers.ConditionAnswer.{yes_it_does, no_it_does_not, asks}
use Rattle.face_data.specs.declared.bearing.Bearing.{Bearing}
use Rattle.face_data.specs.Bearings.{bearing}
use Rattle.face_data.specs.declared.bearing.Bearing.TheVariants.{Implied, Refuted, Silent}
use Rattle.face_data.proofs.Bearings.{bearing_tells, NamesOnce, Tells}
use Rattle.face_data.specs.declared.face.Effect.{Effect}
use Rattle.face_data.specs.declared.face.Last.{Last}
use Rattle.knit_base.specs.declared.rule.Fault.{Fault}
use Rattle.face_data.specs.Composition.{from_bearing, answer_of_kept, against_kept, Gathering, next, reads}

from_bearing_meaning : (r : Bearing) (rest : ConditionAnswer) (q : Ask) (s : State) → Tells r (holds q s) →
    meaning rest s ≡ holds q s → meaning (from_bearing r rest) s ≡ holds q s
unfolding meaning
from_bearing_meaning Implied rest q s t e = sym t
from_bearing_meaning Refuted rest q s t e = sym t
from_bearing_meaning Silent rest q s t e = e

first_fault_none : (c : AskedCondition) (cs : List AskedCondition) (s : State) (b : Bool) → holds c.ask s ≡ b →
    (if b then first_fault cs s else Some c.fault) ≡ None → (holds c.ask s ≡ true) × (first_fault cs s ≡ None)
first_fault_none c cs s true e h = (e, h)
first_fault_none c cs s false e h = absurd (cc)

settled_meaning : (kept : List AskedCondition) (q : Ask) (s : State) → NamesOnce q → first_fault kept s ≡ None → meaning (answer_of_kept kept q) s ≡ holds q s
unfolding answer_of_kept meaning
settled_meaning [] q s d h = refl
settled_meaning (c ∷ cs) q s d h =
    let both = first_fault_none c cs s (holds c.ask s) refl h in
    from_bearing_meaning (bearing c.ask q) (answer_of_kept cs q) q s (bearing_tells c.ask q s d both.0) (settled_meaning cs q s d both.1)

-- a condition that is left to ask names each needle once
abbrev pub AnswerNamesOnce : ConditionAnswer → Type 0
AnswerNamesOnce (asks q) = NamesOnce q
AnswerNamesOnce yes_it_does = Unit {0}
AnswerNamesOnce no_it_does_not = Unit {0}

against_kept_meaning : (kept : List AskedCondition) (r : ConditionAnswer) (s : State) → AnswerNamesOnce r → first_fault kept s ≡ None → meaning (against_kept kept r) s ≡ meaning r s
unfolding meaning
against_kept_meaning kept yes_it_does s d h = refl
against_kept_meaning kept no_it_does_not s d h = refl
against_kept_meaning kept (asks q) s d h = settled_meaning kept q s d h

-- the first fault, or else the second
abbrev pub or_else : Option Fault → Option Fault → Option Fault
or_else (Some f) other = Some f
or_else None other = other

-- the fault that is met where these conditions are tried and then the stop
abbrev pub fault_in : Gathering → State → Option Fault
fault_in k s = or_else (first_fault k.checks s) k.stop

or_else_if : (b : Bool) (x y : Option Fault) (f : Fault) → or_else (if b then x else Some f) y ≡ (if b then or_else x y else Some f)
or_else_if true x y f = refl
or_else_if false x y f = refl

-- the first fault of two lists of conditions
pub first_fault-append : (xs ys : List AskedCondition) (s : State) → first_fault (xs ++ ys) s ≡ or_else (first_fault xs s) (first_fault ys s)
first_fault-append [] ys s = refl
first_fault-append (c ∷ xs) ys s =
    ap (λ r. if holds c.ask s then r else Some c.fault) (first_fault-append xs ys s)
    ∙ sym (or_else_if (holds c.ask s) (first_fault xs s) (first_fault ys s) c.fault)

-- a fault among the conditions kept so far stays the first one
next_stays : (r : ConditionAnswer) (kept : List AskedCondition) (g : Fault) (go : List AskedCondition → Gathering) (s : State) (f : Fault) →
    first_fault kept s ≡ Some f → ((k : List AskedCondition) → first_fault k s ≡ Some f → fault_in (go k) s ≡ Some f) →
    fault_in (next r kept g go) s ≡ Some f
next_stays yes_it_does kept g go s f h ih = ih kept h
next_stays no_it_does_not kept g go s f h ih = ap (λ o. or_else o (Some g)) h
next_stays (asks q) kept g go s f h ih =
    ih (kept ++ record { fault = g; ask = q } ∷ [])
    (first_fault-append kept (record { fault = g; ask = q } ∷ []) s
    ∙ ap (λ o. or_else o (first_fault (record { fault = g; ask = q } ∷ []) s)) h)

reads_stays : (e : Effect) (la : List Last) (a : List Changed) (lines : ℕ) (kept rest : List AskedCondition) (s : State) (f : Fault) →
    first_fault kept s ≡ Some f → fault_in (reads e la a lines kept rest) s ≡ Some f
unfolding reads
reads_stays e la a lines kept [] s f h = ap (λ o. or_else o None) h
reads_stays e la a lines kept (c ∷ cs) s f h =
    next_stays (against_kept kept (read_answer e la a c.ask)) kept (fault_raised lines c.fault) (λ k. reads e la a lines k cs) s f h
    (λ k hk. reads_stays e la a lines k cs s f hk)

-- each condition that the second block adds is read_seg with distinct needles
abbrev pub AllNameOnce : Effect → List Last → List Changed → List AskedCondition → Type 0
AllNameOnce e la a [] = Unit {0}
AllNameOnce e la a (c ∷ cs) = AnswerNamesOnce (read_answer e la a c.ask) × AllNameOnce e la a cs

-- one condition, where those kept so far hold; `later` is what is then known of the rest
next_none : (r : ConditionAnswer) (kept : List AskedCondition) (g : Fault) (go : List AskedCondition → Gathering) (s : State) (t : Bool) (later : Option Fault) →
    first_fault kept s ≡ None → meaning r s ≡ t →
    ((k : List AskedCondition) → first_fault k s ≡ None → fault_in (go k) s ≡ later) →
    ((k : List AskedCondition) → first_fault k s ≡ Some g → fault_in (go k) s ≡ Some g) →
    fault_in (next r kept g go) s ≡ (if t then later else Some g)
unfolding meaning
next_none yes_it_does kept g go s t later h m ih stays = subst (λ b. fault_in (go kept) s ≡ (if b then later else Some g)) m (ih kept h)
next_none no_it_does_not kept g go s t later h m ih stays =
    subst (λ b. or_else (first_fault kept s) (Some g) ≡ (if b then later else Some g)) m (ap (λ o. or_else o (Some g)) h)
next_none (asks q) kept g go s t later h m ih stays = step (holds q s) refl
  where
    longer : List AskedCondition
    longer = kept ++ record { fault = g; ask = q } ∷ []

    known : first_fault longer s ≡ first_fault (record { fault = g; ask = q } ∷ []) s
    known = first_fault-append kept (record { fault = g; ask = q } ∷ []) s ∙ ap (λ o. or_else o (first_fault (record { fault = g; ask = q } ∷ []) s)) h

    step : (b : Bool) → holds q s ≡ b → fault_in (go longer) s ≡ (if t then later else Some g)
    step true e = subst (λ b. fault_in (go longer) s ≡ (if b then later else Some g)) (sym e ∙ m) (ih longer (known ∙ ap (λ b. if b then None else Some g) e))
    step false e = subst (λ b. fault_in (go longer) s ≡ (if b then later else Some g)) (sym e ∙ m) (stays longer (known ∙ ap (λ b. if b then None else Some g) e))

map_if : (b : Bool) (x : Option Fault) (f : Fault) (by : ℕ) → (if b then option_map (fault_raised by) x else Some (fault_raised by f)) ≡ option_map (fault_raised by) (if b then x else Some f)
map_if true x f by = refl
map_if false x f by = refl

reads_none : (e : Effect) (la : List Last) (a : List Changed) (lines : ℕ) (kept rest : List AskedCondition) (s : State) (first : ℕ) → AllNameOnce e la a rest →
    first_fault kept s ≡ None → fault_in (reads e la a lines kept rest) s ≡ option_map (fault_raised lines) (first_fault rest (state_after_changes e la a s first))
unfolding reads
reads_none e la a lines kept [] s first d h = ap (λ o. or_else o None) h
reads_none e la a lines kept (c ∷ cs) s first d h =
    next_none (against_kept kept (read_answer e la a c.ask)) kept (fault_raised lines c.fault) (λ k. reads e la a lines k cs) s
    (holds c.ask (state_after_changes e la a s first)) (option_map (fault_raised lines) (first_fault cs (state_after_changes e la a s first))) h
    (against_kept_meaning kept (read_answer e la a c.ask) s d.0 h ∙ read_answer_meaning e la a c.ask s first)
    (λ k hk. reads_none e la a lines k cs s first d.1 hk)
    (λ k hk. reads_stays e la a lines k cs s (fault_raised lines c.fault) hk)
    ∙ map_if (holds c.ask (state_after_changes e la a s first)) (first_fault cs (state_after_changes e la a s first)) c.fault lines

-- The conditions of both blocks, on the state at the first one's entry: the first fault of the first block, else the
-- first of the second block in the state that the first one makes, its line raised.
pub reads_fault : (e : Effect) (la : List Last) (a : List Changed) (lines : ℕ) (kept rest : List AskedCondition) (s : State) (first : ℕ) → AllNameOnce e la a rest →
    fault_in (reads e la a lines kept rest) s ≡ or_else (first_fault kept s) (option_map (fault_raised lines) (first_fault rest (state_after_changes e la a s first)))
reads_fault e la a lines kept rest s first d = go (first_fault kept s) refl
  where
    go : (o : Option Fault) → first_fault kept s ≡ o → fault_in (reads e la a lines kept rest) s ≡ or_else o (option_map (fault_raised lines) (first_fault rest (state_after_changes e la a s first)))
    go None h = reads_none e la a lines kept rest s first d h
    go (Some f) h = reads_stays e la a lines kept rest s f h
