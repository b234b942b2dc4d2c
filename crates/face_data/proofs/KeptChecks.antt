-- What the conditions kept by `reads` owe to those of both blocks.
use Rattle.std.proofs.Common.{◌≡◌, ℕ, ◌+◌, ◌-◌, ◌≤◌, Bool, true, false, List, [], ◌∷◌, ◌++◌, None, refl, sym, ap, ◌∙◌, subst, arith, inl, inr, ◌⊎◌}
use Rattle.std.specs.Prelude.{if◌then◌else◌, nat_le, nat_lt, ◌&&◌}
use Rattle.std.specs.List.{Contains, sum_by}
use Rattle.std.proofs.lemmas.Bool.{and_parts, leb-true, ltb-false}
use Rattle.std.proofs.lemmas.List.Elements.{Contains-append_left, Contains-push, Contains-push_cases}
use Rattle.std.proofs.lemmas.List.Sums.{sum_by-append, sum_by-cons}
use Rattle.face_data.specs.Conditions.{Ask}
use Rattle.face_data.specs.Summaries.{AskedCondition, fault_raised}
use Rattle.face_data.specs.Segments.{Changed, segments_on, names_through, new_through, new_of}
use Rattle.face_data.specs.Conditions.Ask.{rack_is, carrier_in, carrier_out, hook_free, hook_is, hook_lacks, size_at_most, last_near}
use Rattle.face_data.specs.Answers.{ConditionAnswer, read_answer, size_answer, size_left}
use Rattle.face_data.specs.Answers.ConditionAnswer.{yes_it_does, no_it_does_not, asks}
use Rattle.face_data.proofs.Members.{sum_within, Contains-none, Contains-head, Contains-tail, Contains-cons_cases}
use Rattle.face_data.specs.declared.bearing.Bearing.{Bearing}
use Rattle.face_data.specs.Bearings.{bearing, if_so, all_in}
use Rattle.face_data.specs.declared.bearing.Bearing.TheVariants.{Implied, Refuted, Silent}
use Rattle.face_data.proofs.Bearings.{all_in_within, NamesOnce}
use Rattle.face_data.proofs.Gathering.{AnswerNamesOnce, AllNameOnce}
use Rattle.knit_base.specs.declared.needle.Needle.{Needle}
use Rattle.face_data.specs.declared.face.Effect.{Effect}
use Rattle.face_data.specs.declared.face.Last.{Last}
use Rattle.face_data.specs.Composition.{answer_of_kept, from_bearing, against_kept, next, reads}
use Rattle.face_data.specs.Goodness.{entries_on, IsIrredundant, MeetsSize, MeetsSizes, size_after}

-- one more condition, of which no other says anything
pub irredundant_push : (cs : List AskedCondition) (d : AskedCondition) → IsIrredundant cs → ((c : AskedCondition) → Contains cs c → bearing c.ask d.ask ≡ Silent) → IsIrredundant (cs ++ d ∷ [])
irredundant_push [] d h k = ((λ e none. absurd (Contains-none e none)), tt)
irredundant_push (c ∷ cs) d h k = (
  (λ e there. elim (Contains-push_cases cs d e there) [
    | inl within ↦ h.0 e within
    | inr same ↦ subst (λ (w : AskedCondition). bearing c.ask w.ask ≡ Silent) same (k c (Contains-head c cs))
  ]),
  irredundant_push cs d h.1 (λ e there. k e (Contains-tail c cs e there)),
)

-- what is left of a condition is itself, and then nothing kept speaks of it
from_bearing_asks : (r : Bearing) (rest : ConditionAnswer) (q : Ask) → from_bearing r rest ≡ asks q → (r ≡ Silent) × (rest ≡ asks q)
from_bearing_asks Implied rest q e = absurd (cc)
from_bearing_asks Refuted rest q e = absurd (cc)
from_bearing_asks Silent rest q e = (refl, e)

-- a condition that is left to ask is as it was, and no kept one says anything of it
pub settled_asks : (kept : List AskedCondition) (q w : Ask) → answer_of_kept kept q ≡ asks w → (w ≡ q) × ((c : AskedCondition) → Contains kept c → bearing c.ask q ≡ Silent)
unfolding answer_of_kept
settled_asks [] q w e = (cc, λ c none. absurd (Contains-none c none))
settled_asks (k ∷ ks) q w e =
    let both = from_bearing_asks (bearing k.ask q) (answer_of_kept ks q) w e in
    let rest = settled_asks ks q w both.1 in (
      rest.0,
      λ c there. elim (Contains-cons_cases k ks c there) [
        | inl same ↦ subst (λ (x : AskedCondition). bearing x.ask q ≡ Silent) same both.0
        | inr later ↦ rest.1 c later
      ],
    )

from_bearing_yes : (r : Bearing) (rest : ConditionAnswer) → from_bearing r rest ≡ yes_it_does → (r ≡ Implied) ⊎ (rest ≡ yes_it_does)
from_bearing_yes Implied rest e = inl refl
from_bearing_yes Refuted rest e = absurd (cc)
from_bearing_yes Silent rest e = inr e

-- a condition that is known to hold is implied by a kept one
pub settled_yes : (kept : List AskedCondition) (q : Ask) → answer_of_kept kept q ≡ yes_it_does → (c : AskedCondition) × Contains kept c × (bearing c.ask q ≡ Implied)
unfolding answer_of_kept
settled_yes [] q e = absurd (cc)
settled_yes (k ∷ ks) q e = elim (from_bearing_yes (bearing k.ask q) (answer_of_kept ks q) e) [
  | inl here ↦ (k, Contains-head k ks, here)
  | inr later ↦ (let w = settled_yes ks q later in (w.0, Contains-tail k ks w.0 w.1, w.2))
]

-- the same of an answer
pub against_asks : (kept : List AskedCondition) (r : ConditionAnswer) (w : Ask) → against_kept kept r ≡ asks w →
    (r ≡ asks w) × ((c : AskedCondition) → Contains kept c → bearing c.ask w ≡ Silent)
against_asks kept yes_it_does w e = absurd (cc)
against_asks kept no_it_does_not w e = absurd (cc)
against_asks kept (asks q) w e =
    let both = settled_asks kept q w e in
    (ap asks (sym both.0), λ c there. subst (λ x. bearing c.ask x ≡ Silent) (sym both.0) (both.1 c there))

-- Any fact of the kept list that a new condition, of which nothing kept speaks, leaves true.
pub reads_keep : (P : List AskedCondition → Type 0) (e : Effect) (la : List Last) (a : List Changed) (lines : ℕ) (kept rest : List AskedCondition) → P kept →
    ((ks : List AskedCondition) (d : AskedCondition) (w : Ask) → Contains rest d → read_answer e la a d.ask ≡ asks w → ((c : AskedCondition) → Contains ks c → bearing c.ask w ≡ Silent) →
    P ks → P (ks ++ record { fault = fault_raised lines d.fault; ask = w } ∷ [])) →
    P (reads e la a lines kept rest).checks
unfolding reads
reads_keep P e la a lines kept [] h push = h
reads_keep P e la a lines kept (d ∷ ds) h push =
    go (against_kept kept (read_answer e la a d.ask)) refl
    (λ ks k. reads_keep P e la a lines ks ds k (λ l x w there is none. push l x w (Contains-tail d ds x there) is none))
  where
    go : (r : ConditionAnswer) → against_kept kept (read_answer e la a d.ask) ≡ r → ((ks : List AskedCondition) → P ks → P (reads e la a lines ks ds).checks) →
        P (next r kept (fault_raised lines d.fault) (λ k. reads e la a lines k ds)).checks
    go yes_it_does is ih = ih kept h
    go no_it_does_not is ih = h
    go (asks w) is ih =
        let both = against_asks kept (read_answer e la a d.ask) w is in
        ih (kept ++ record { fault = fault_raised lines d.fault; ask = w } ∷ []) (push kept d w (Contains-head d ds) both.0 both.1 h)

-- no kept condition says anything of a later one
pub reads_irredundant : (e : Effect) (la : List Last) (a : List Changed) (lines : ℕ) (kept rest : List AskedCondition) → IsIrredundant kept → IsIrredundant (reads e la a lines kept rest).checks
reads_irredundant e la a lines kept rest h =
    reads_keep IsIrredundant e la a lines kept rest h (λ ks d w there is none k. irredundant_push ks (record { fault = fault_raised lines d.fault; ask = w }) k none)

-- each condition at the end is one of the first block's or one of the second's, read_seg through the first
abbrev pub ComesFrom : Effect → List Last → List Changed → ℕ → List AskedCondition → List AskedCondition → AskedCondition → Type 0
ComesFrom e la a lines kept rest c = Contains kept c ⊎ ((d : AskedCondition) × Contains rest d × (read_answer e la a d.ask ≡ asks c.ask) × (c.fault ≡ fault_raised lines d.fault))

-- where kept conditions come from
pub reads_members : (e : Effect) (la : List Last) (a : List Changed) (lines : ℕ) (kept rest : List AskedCondition) (c : AskedCondition) →
    Contains (reads e la a lines kept rest).checks c → ComesFrom e la a lines kept rest c
reads_members e la a lines kept rest =
    reads_keep (λ ks. (c : AskedCondition) → Contains ks c → ComesFrom e la a lines kept rest c) e la a lines kept rest (λ c h. inl h)
    (λ ks d w there is none ih c h. elim (Contains-push_cases ks (record { fault = fault_raised lines d.fault; ask = w }) c h) [
      | inl before ↦ ih c before
      | inr same ↦ inr (d, there, is ∙ ap (λ (x : AskedCondition). asks x.ask) same, sym (ap (λ (x : AskedCondition). x.fault) same))
    ])

-- a kept condition stays
pub reads_longer : (e : Effect) (la : List Last) (a : List Changed) (lines : ℕ) (kept rest : List AskedCondition) (c : AskedCondition) → Contains kept c → Contains (reads e la a lines kept rest).checks c
reads_longer e la a lines kept rest c h =
    reads_keep (λ ks. Contains ks c) e la a lines kept rest h (λ ks d w there is none k. Contains-append_left ks (record { fault = fault_raised lines d.fault; ask = w } ∷ []) c k)

-- sizes after the first block, together
pub sum_by-size_after : (a : List Changed) (size : Needle → ℕ) (names : List Needle) →
    sum_by (size_after a size) names ≡ sum_by size (names_through a names) + new_through a names
sum_by-size_after a size [] = refl
sum_by-size_after a size (n ∷ names) =
    omega (
      arith,
      sum_by-size_after a size names,
      sum_by-cons (size_after a size) n names,
      sum_by-append size (entries_on a n) (names_through a names),
      sum_by-cons (λ m. new_of (segments_on a m)) n names,
    )

if_so_implied : (b : Bool) (r : Bearing) → if_so b r ≡ Implied → b ≡ true
if_so_implied true r e = refl
if_so_implied false r e = absurd (cc)

-- what an earlier condition implies, sizes that meet the earlier one meet
implied_meets : (p q : Ask) (size : Needle → ℕ) → NamesOnce q → bearing p q ≡ Implied → MeetsSize p size → MeetsSize q size
unfolding bearing
implied_meets (size_at_most earlier least) (size_at_most later most) size d e h =
    let both = and_parts (all_in later earlier) (nat_le least most) (if_so_implied (all_in later earlier && nat_le least most) Implied e) in
    omega (arith, h, sum_within size later earlier d (all_in_within later earlier both.0), leb-true least most both.1)
implied_meets (rack_is x) (size_at_most later most) size d e h = absurd (cc)
implied_meets (carrier_in x) (size_at_most later most) size d e h = absurd (cc)
implied_meets (carrier_out x) (size_at_most later most) size d e h = absurd (cc)
implied_meets hook_free (size_at_most later most) size d e h = absurd (cc)
implied_meets (hook_is x) (size_at_most later most) size d e h = absurd (cc)
implied_meets (hook_lacks x) (size_at_most later most) size d e h = absurd (cc)
implied_meets (last_near c at float) (size_at_most later most) size d e h = absurd (cc)
implied_meets p (rack_is x) size d e h = tt
implied_meets p (carrier_in x) size d e h = tt
implied_meets p (carrier_out x) size d e h = tt
implied_meets p hook_free size d e h = tt
implied_meets p (hook_is x) size d e h = tt
implied_meets p (hook_lacks x) size d e h = tt
implied_meets p (last_near c at float) size d e h = tt

-- what the answer to a size condition owes: sizes that meet it meet the condition, with the new loops added
abbrev pub MeetsAnswer : ConditionAnswer → (Needle → ℕ) → Type 0
MeetsAnswer yes_it_does size = Unit {0}
MeetsAnswer no_it_does_not size = ⊥
MeetsAnswer (asks q) size = MeetsSize q size

left_meets : (names : List Needle) (most : ℕ) (size : Needle → ℕ) → MeetsAnswer (size_left names most) size → sum_by size names ≤ most
left_meets [] most size h = omega arith
left_meets (n ∷ names) most size h = h

size_meets_if : (names : List Needle) (new most : ℕ) (size : Needle → ℕ) (b : Bool) → nat_lt most new ≡ b →
    MeetsAnswer (if b then no_it_does_not else size_left names (most - new)) size → sum_by size names + new ≤ most
size_meets_if names new most size true e h = absurd h
size_meets_if names new most size false e h = omega (arith, ltb-false most new e, left_meets names (most - new) size h)

read_meets : (e : Effect) (la : List Last) (a : List Changed) (q : Ask) (size : Needle → ℕ) → MeetsAnswer (read_answer e la a q) size → MeetsSize q (size_after a size)
unfolding read_answer size_answer
read_meets e la a (size_at_most names most) size h =
    omega (arith, sum_by-size_after a size names, size_meets_if (names_through a names) (new_through a names) most size (nat_lt most (new_through a names)) refl h)
read_meets e la a (rack_is x) size h = tt
read_meets e la a (carrier_in x) size h = tt
read_meets e la a (carrier_out x) size h = tt
read_meets e la a hook_free size h = tt
read_meets e la a (hook_is x) size h = tt
read_meets e la a (hook_lacks x) size h = tt
read_meets e la a (last_near c at float) size h = tt

against_yes : (kept : List AskedCondition) (r : ConditionAnswer) (size : Needle → ℕ) → AnswerNamesOnce r → against_kept kept r ≡ yes_it_does → MeetsSizes kept size → MeetsAnswer r size
against_yes kept yes_it_does size d e h = tt
against_yes kept no_it_does_not size d e h = absurd (cc)
against_yes kept (asks q) size d e h =
    let w = settled_yes kept q e in implied_meets w.0.ask q size d w.2 (h w.0 w.1)

-- Where the run isn't known to stop, sizes that meet all conditions at the end meet, after the first block, those of the second.
pub reads_meets : (e : Effect) (la : List Last) (a : List Changed) (lines : ℕ) (kept rest : List AskedCondition) (size : Needle → ℕ) → AllNameOnce e la a rest →
    (reads e la a lines kept rest).stop ≡ None → MeetsSizes (reads e la a lines kept rest).checks size → MeetsSizes rest (size_after a size)
unfolding reads
reads_meets e la a lines kept [] size d goes_on h = λ c there. absurd (Contains-none c there)
reads_meets e la a lines kept (b ∷ bs) size d goes_on h =
    go (against_kept kept (read_answer e la a b.ask)) refl (λ ks o k. reads_meets e la a lines ks bs size d.1 o k) goes_on h
  where
    go : (r : ConditionAnswer) → against_kept kept (read_answer e la a b.ask) ≡ r →
        ((ks : List AskedCondition) → (reads e la a lines ks bs).stop ≡ None → MeetsSizes (reads e la a lines ks bs).checks size → MeetsSizes bs (size_after a size)) →
        (next r kept (fault_raised lines b.fault) (λ k. reads e la a lines k bs)).stop ≡ None →
        MeetsSizes (next r kept (fault_raised lines b.fault) (λ k. reads e la a lines k bs)).checks size →
        (c : AskedCondition) → Contains (b ∷ bs) c → MeetsSize c.ask (size_after a size)
    go yes_it_does is ih o k c there = elim (Contains-cons_cases b bs c there) [
      | inl same ↦ subst (λ (x : AskedCondition). MeetsSize x.ask (size_after a size)) same
          (read_meets e la a b.ask size (against_yes kept (read_answer e la a b.ask) size d.0 is (λ x h. k x (reads_longer e la a lines kept bs x h))))
      | inr later ↦ ih kept o k c later
    ]
    go no_it_does_not is ih o k c there = absurd (cc)
    go (asks w) is ih o k c there = elim (Contains-cons_cases b bs c there) [
      | inl same ↦ subst (λ (x : AskedCondition). MeetsSize x.ask (size_after a size)) same
          (read_meets e la a b.ask size (subst (λ r. MeetsAnswer r size) (sym (against_asks kept (read_answer e la a b.ask) w is).0)
          (k (record { fault = fault_raised lines b.fault; ask = w })
          (reads_longer e la a lines (kept ++ record { fault = fault_raised lines b.fault; ask = w } ∷ []) bs (record { fault = fault_raised lines b.fault; ask = w })
          (Contains-push kept (record { fault = fault_raised lines b.fault; ask = w }))))))
      | inr later ↦ ih (kept ++ record { fault = fault_raised lines b.fault; ask = w } ∷ []) o k c later
    ]
