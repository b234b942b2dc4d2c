-- A good summary, and that two good ones compose to a good one.
use Rattle.std.proofs.Common.{◌≡◌, ℕ, ◌+◌, ◌-◌, ◌^◌, ◌≤◌, ◌<◌, Bool, true, false, not, ◌&&◌, ◌||◌, List, [], ◌∷◌, ◌++◌, Option, Some, None, refl, sym, ap, ◌∙◌, subst, arith, inl, inr, ◌⊎◌, length}
use Rattle.std.specs.Prelude.{ℤ, if◌then◌else◌, nat_lt, bit_or, bit_and, IfSome, is_some}
use Rattle.std.proofs.lemmas.Bool.{false≢true}
use Rattle.std.proofs.lemmas.Nat.{or_lt, xor_lt, and_le_l}
use Rattle.std.specs.List.{Contains, sum_by}
use Rattle.std.proofs.lemmas.List.Elements.{Contains-append_left, Contains-append_right, Contains-append_cases, Contains-push_cases}
use Rattle.std.specs.declared.cmp.Ordering.{Ordering}
use Rattle.std.specs.declared.cmp.Ordering.TheVariants.{Less, Equal, Greater}
use Rattle.std.specs.List.Sorted.{IsStrictlySortedBy}
use Rattle.carriage_model.specs.State.{State, is_near}
use Rattle.knit_base.specs.declared.yarns.CarrierNo.{CarrierNo}
use Rattle.face_data.specs.declared.face.Last.{Last}
use Rattle.face_data.specs.Lasts.{last_at, lasts_of_both}
use Rattle.face_data.proofs.LastLists.{last_at-both, members_both, or_last, order_both}
use Rattle.knit_base.specs.Yarns.{contains_carrier, without_set}
use Rattle.knit_base.specs.Needle.{needle_cmp}
use Rattle.face_data.specs.Conditions.{Ask}
use Rattle.face_data.specs.Summaries.{AskedCondition, Summary, fault_raised, summary_outcome}
use Rattle.face_data.specs.Segments.{Changed, segments_on, names_through, new_through, entry_needles_of, new_of}
use Rattle.face_data.specs.Conditions.Ask.{rack_is, carrier_in, carrier_out, hook_free, hook_is, hook_lacks, size_at_most, last_near}
use Rattle.face_data.specs.Through.{through, changes_through, change_through}
use Rattle.face_data.specs.Answers.{ConditionAnswer, read_answer, size_answer, size_left, near_answer, where_known, answer_of}
use Rattle.face_data.specs.Answers.ConditionAnswer.{yes_it_does, no_it_does_not, asks}
use Rattle.face_data.proofs.Members.{Contains-none, Contains-head, Contains-tail, Contains-cons_cases}
use Rattle.face_data.proofs.Bearings.{NamesOnce}
use Rattle.face_data.proofs.Gathering.{AnswerNamesOnce, AllNameOnce}
use Rattle.face_data.proofs.ChangeLists.{order_merged, order_through, segments_on-both}
use Rattle.face_data.proofs.Owners.{OwnsOnce-both, from_through, distinct_through, nested_through, nested_or_apart_through, first_lies, second_lies, LiesIn-both, changed_or_own, only_itself, new_of-through, entries_of-through}
use Rattle.face_data.proofs.KeptChecks.{sum_by-size_after, reads_members, reads_longer, reads_irredundant, reads_meets}
use Rattle.face_data.proofs.Composition.{has_after, AllNameOnceThrough, composed_applied}
use Rattle.knit_base.specs.declared.needle.Needle.{Needle}
use Rattle.face_data.specs.declared.face.Effect.{Effect}
use Rattle.knit_base.specs.declared.rule.Fault.{Fault}
use Rattle.face_data.specs.declared.face.Ending.{Ending}
use Rattle.face_data.specs.declared.face.Ending.TheVariants.{Through, Broken}
use Rattle.face_data.specs.declared.face.Seg.{Seg}
use Rattle.face_data.specs.declared.face.Seg.TheVariants.{Entry, New}
use Rattle.face_data.specs.Sets.{AreNeedlesWithin, IsApart, NestedOrApart}
use Rattle.face_data.specs.Composition.{or_old, Gathering, reads, against_kept, next, changes_merged, merged_from, by_order, composed, composed_at, closed_at, effect_of_both, ending_after, made_with, changes_with, lasts_with, and_then}
use Rattle.face_data.specs.Goodness.{entries_on, OwnsOnce, NeedlesLieIn, IsIrredundant, size_after, AskFits, size_needles_in, NeverFalls, AgreeOnLast, IsSet, ChangeFits, BrokenFits, ThroughFits, EndingFits, IsGood, IsFair}

where_known_asks : {X : Type 0} (o : Option X) (test : X → Bool) (q w : Ask) → where_known o test q ≡ asks w → w ≡ q
where_known_asks None test q w e = cc
where_known_asks (Some x) test q w e = decided (test x) e
  where
    decided : (b : Bool) → answer_of b ≡ asks w → w ≡ q
    decided true e = absurd (cc)
    decided false e = absurd (cc)

in_asks : (came went : Bool) (q w : Ask) → (if came then yes_it_does else (if went then no_it_does_not else asks q)) ≡ asks w → w ≡ q
in_asks true went q w e = absurd (cc)
in_asks false true q w e = absurd (cc)
in_asks false false q w e = cc

out_asks : (came went : Bool) (q w : Ask) → (if came then no_it_does_not else (if went then yes_it_does else asks q)) ≡ asks w → w ≡ q
out_asks true went q w e = absurd (cc)
out_asks false true q w e = absurd (cc)
out_asks false false q w e = cc

left_asks : (names : List Needle) (most : ℕ) (w : Ask) → size_left names most ≡ asks w → (w ≡ size_at_most names most) × (1 ≤ length names)
left_asks [] most w e = absurd (cc)
left_asks (n ∷ names) most w e = (cc, omega arith)

size_asks : (names : List Needle) (new most : ℕ) (w : Ask) → size_answer names new most ≡ asks w → (w ≡ size_at_most names (most - new)) × (1 ≤ length names)
unfolding size_answer
size_asks names new most w e = go (nat_lt most new) e
  where
    go : (b : Bool) → (if b then no_it_does_not else size_left names (most - new)) ≡ asks w → (w ≡ size_at_most names (most - new)) × (1 ≤ length names)
    go true e = absurd (cc)
    go false e = left_asks names (most - new) w e

near_asks : (o : Option (Option ℤ)) (q : Ask) (at : ℤ) (float : ℕ) (w : Ask) → near_answer o q at float ≡ asks w → (w ≡ q) × (o ≡ None)
near_asks None q at float w e = (cc, refl)
near_asks (Some last) q at float w e = absurd (go (is_near float last at) e)
  where
    go : (b : Bool) → answer_of b ≡ asks w → ⊥
    go true e = cc
    go false e = cc

-- the names of what is left are the names, read_seg through the first block
pub names_read : (e : Effect) (la : List Last) (a : List Changed) (q w : Ask) → read_answer e la a q ≡ asks w → size_needles_in w ≡ names_through a (size_needles_in q)
unfolding read_answer
names_read e la a (rack_is x) w h = ap size_needles_in (where_known_asks e.rack _ (rack_is x) w h)
names_read e la a (carrier_in x) w h = ap size_needles_in (in_asks (contains_carrier e.came x) (contains_carrier e.went x) (carrier_in x) w h)
names_read e la a (carrier_out x) w h = ap size_needles_in (out_asks (contains_carrier e.came x) (contains_carrier e.went x) (carrier_out x) w h)
names_read e la a hook_free w h = ap size_needles_in (where_known_asks e.hook _ hook_free w h)
names_read e la a (hook_is x) w h = ap size_needles_in (where_known_asks e.hook _ (hook_is x) w h)
names_read e la a (hook_lacks x) w h = ap size_needles_in (where_known_asks e.hook _ (hook_lacks x) w h)
names_read e la a (last_near c at float) w h = ap size_needles_in (near_asks (last_at la c) (last_near c at float) at float w h).0
names_read e la a (size_at_most names most) w h = ap size_needles_in (size_asks (names_through a names) (new_through a names) most w h).0

-- entries are known needles
held_known : (a : List Changed) (lines : ℕ) (known : List Needle) → ((c : Changed) → Contains a c → ChangeFits lines known c) →
    (m n : Needle) → Contains (entries_on a m) n → (m ≡ n) ⊎ Contains known n
held_known a lines known fit m n h = elim (changed_or_own a m) [
  | inl c ↦ inr ((fit c.0 c.1).entries n (subst (λ segs. Contains (entry_needles_of segs) n) c.3 h))
  | inr own ↦ inl (only_itself m n (subst (λ segs. Contains (entry_needles_of segs) n) own h))
]

-- entries of the first block that stand on needles of the second are known
pub within_known : (a : List Changed) (lines : ℕ) (first second xs : List Needle) → ((c : Changed) → Contains a c → ChangeFits lines first c) →
    AreNeedlesWithin xs second → AreNeedlesWithin (names_through a xs) (first ++ second)
within_known a lines first second xs fit w n h =
    let v = from_through a xs n h in
    elim (held_known a lines first fit v.0 n v.2) [
      | inl same ↦ Contains-append_right first second n (w n (subst (Contains xs) same v.1))
      | inr known ↦ Contains-append_left first second n known
    ]

-- a condition read through the first block fits
pub asks_fit_read : (carriers limit : ℕ) (first second : List Needle) (e : Effect) (la : List Last) (a : List Changed) (lines : ℕ) (q w : Ask) → OwnsOnce a →
    ((c : Changed) → Contains a c → ChangeFits lines first c) → AskFits carriers limit second q → read_answer e la a q ≡ asks w → AskFits carriers limit (first ++ second) w
unfolding read_answer
asks_fit_read carriers limit first second e la a lines (rack_is x) w o fit h is = subst (AskFits carriers limit (first ++ second)) (sym (where_known_asks e.rack _ (rack_is x) w is)) tt
asks_fit_read carriers limit first second e la a lines (carrier_in x) w o fit h is = subst (AskFits carriers limit (first ++ second)) (sym (in_asks (contains_carrier e.came x) (contains_carrier e.went x) (carrier_in x) w is)) h
asks_fit_read carriers limit first second e la a lines (carrier_out x) w o fit h is = subst (AskFits carriers limit (first ++ second)) (sym (out_asks (contains_carrier e.came x) (contains_carrier e.went x) (carrier_out x) w is)) h
asks_fit_read carriers limit first second e la a lines hook_free w o fit h is = subst (AskFits carriers limit (first ++ second)) (sym (where_known_asks e.hook _ hook_free w is)) tt
asks_fit_read carriers limit first second e la a lines (hook_is x) w o fit h is = subst (AskFits carriers limit (first ++ second)) (sym (where_known_asks e.hook _ (hook_is x) w is)) h
asks_fit_read carriers limit first second e la a lines (hook_lacks x) w o fit h is = subst (AskFits carriers limit (first ++ second)) (sym (where_known_asks e.hook _ (hook_lacks x) w is)) h
asks_fit_read carriers limit first second e la a lines (last_near c at float) w o fit h is = subst (AskFits carriers limit (first ++ second)) (sym (near_asks (last_at la c) (last_near c at float) at float w is).0) h
asks_fit_read carriers limit first second e la a lines (size_at_most names most) w o fit h is =
    let left = size_asks (names_through a names) (new_through a names) most w is in
    let at_most : most - new_through a names ≤ limit = omega (arith, h.at_most) in
    subst (AskFits carriers limit (first ++ second)) (sym left.0) (record {
      some = left.1;
      distinct = distinct_through a names o h.distinct;
      within = within_known a lines first second names fit h.within;
      at_most = at_most;
    })

plain_from_fit : (carriers limit : ℕ) (known : List Needle) (w : Ask) → AskFits carriers limit known w → NamesOnce w
plain_from_fit carriers limit known (size_at_most names most) h = h.distinct
plain_from_fit carriers limit known (rack_is x) h = tt
plain_from_fit carriers limit known (carrier_in x) h = tt
plain_from_fit carriers limit known (carrier_out x) h = tt
plain_from_fit carriers limit known hook_free h = tt
plain_from_fit carriers limit known (hook_is x) h = tt
plain_from_fit carriers limit known (hook_lacks x) h = tt
plain_from_fit carriers limit known (last_near c at float) h = tt

plain_answer : (r : ConditionAnswer) → ((w : Ask) → r ≡ asks w → NamesOnce w) → AnswerNamesOnce r
plain_answer yes_it_does h = tt
plain_answer no_it_does_not h = tt
plain_answer (asks q) h = h q refl

-- each condition of the second block is read with distinct needles
pub all_plain : (carriers limit : ℕ) (first second : List Needle) (e : Effect) (la : List Last) (a : List Changed) (lines : ℕ) (rest : List AskedCondition) → OwnsOnce a →
    ((c : Changed) → Contains a c → ChangeFits lines first c) → ((c : AskedCondition) → Contains rest c → AskFits carriers limit second c.ask) → AllNameOnce e la a rest
all_plain carriers limit first second e la a lines [] o fit h = tt
all_plain carriers limit first second e la a lines (c ∷ cs) o fit h = (
  plain_answer (read_answer e la a c.ask) (λ w is. plain_from_fit carriers limit (first ++ second) w
      (asks_fit_read carriers limit first second e la a lines c.ask w o fit (h c (Contains-head c cs)) is)),
  all_plain carriers limit first second e la a lines cs o fit (λ d there. h d (Contains-tail c cs d there)),
)

-- no check is of a later line
abbrev pub NotPast : List AskedCondition → ℕ → List AskedCondition → Type 0
NotPast kept lines rest = (c d : AskedCondition) → Contains kept c → Contains rest d → c.fault.line ≤ lines + d.fault.line

falls_push : (cs : List AskedCondition) (d : AskedCondition) → NeverFalls cs → ((c : AskedCondition) → Contains cs c → c.fault.line ≤ d.fault.line) → NeverFalls (cs ++ d ∷ [])
falls_push [] d h k = ((λ e none. absurd (Contains-none e none)), tt)
falls_push (c ∷ cs) d h k = (
  (λ e there. elim (Contains-push_cases cs d e there) [
    | inl before ↦ h.0 e before
    | inr same ↦ subst (λ (w : AskedCondition). c.fault.line ≤ w.fault.line) same (k c (Contains-head c cs))
  ]),
  falls_push cs d h.1 (λ e there. k e (Contains-tail c cs e there)),
)

-- the kept conditions' lines don't fall, and none is past the line at which the run is known to stop
pub record InTurn (k : Gathering) : Type 0 where
  pub in_turn : NeverFalls k.checks
  pub stops_last : (stop_at : Fault) → k.stop ≡ Some stop_at → (c : AskedCondition) → Contains k.checks c → c.fault.line ≤ stop_at.line

-- the lines of the conditions that are kept do not fall
pub reads_in_turn : (e : Effect) (la : List Last) (a : List Changed) (lines : ℕ) (kept rest : List AskedCondition) → NeverFalls kept → NotPast kept lines rest → NeverFalls rest →
    InTurn (reads e la a lines kept rest)
unfolding reads
reads_in_turn e la a lines kept [] h past turn = record { in_turn = h; stops_last = λ stop_at is c there. absurd (cc) }
reads_in_turn e la a lines kept (d ∷ ds) h past turn =
    go (against_kept kept (read_answer e la a d.ask)) (λ ks k p. reads_in_turn e la a lines ks ds k p turn.1)
  where
    go : (r : ConditionAnswer) → ((ks : List AskedCondition) → NeverFalls ks → NotPast ks lines ds → InTurn (reads e la a lines ks ds)) →
        InTurn (next r kept (fault_raised lines d.fault) (λ k. reads e la a lines k ds))
    go yes_it_does ih = ih kept h (λ c x there later. past c x there (Contains-tail d ds x later))
    go no_it_does_not ih = record {
      in_turn = h;
      stops_last = λ stop_at is c there. subst (λ (f : Fault). c.fault.line ≤ f.line) (let same : fault_raised lines d.fault ≡ stop_at = cc in same) (past c d there (Contains-head d ds));
    }
    go (asks w) ih = ih (kept ++ record { fault = fault_raised lines d.fault; ask = w } ∷ [])
        (falls_push kept (record { fault = fault_raised lines d.fault; ask = w }) h (λ c there. past c d there (Contains-head d ds)))
        (λ c x there later. elim (Contains-push_cases kept (record { fault = fault_raised lines d.fault; ask = w }) c there) [
          | inl before ↦ past c x before (Contains-tail d ds x later)
          | inr same ↦ subst (λ (y : AskedCondition). y.fault.line ≤ lines + x.fault.line) same (let ahead = turn.0 x later in omega arith)
        ])

-- a known stop is the raised fault of a condition of the second block
pub reads_stop : (e : Effect) (la : List Last) (a : List Changed) (lines : ℕ) (kept rest : List AskedCondition) (stop_at : Fault) → (reads e la a lines kept rest).stop ≡ Some stop_at →
    (d : AskedCondition) × Contains rest d × (fault_raised lines d.fault ≡ stop_at)
unfolding reads
reads_stop e la a lines kept [] stop_at is = absurd (cc)
reads_stop e la a lines kept (d ∷ ds) stop_at is = go (against_kept kept (read_answer e la a d.ask)) (λ ks i. reads_stop e la a lines ks ds stop_at i) is
  where
    later : (x : AskedCondition) × Contains ds x × (fault_raised lines x.fault ≡ stop_at) → (x : AskedCondition) × Contains (d ∷ ds) x × (fault_raised lines x.fault ≡ stop_at)
    later w = (w.0, Contains-tail d ds w.0 w.1, w.2)

    go : (r : ConditionAnswer) → ((ks : List AskedCondition) → (reads e la a lines ks ds).stop ≡ Some stop_at → (x : AskedCondition) × Contains ds x × (fault_raised lines x.fault ≡ stop_at)) →
        (next r kept (fault_raised lines d.fault) (λ k. reads e la a lines k ds)).stop ≡ Some stop_at → (x : AskedCondition) × Contains (d ∷ ds) x × (fault_raised lines x.fault ≡ stop_at)
    go yes_it_does ih i = later (ih kept i)
    go no_it_does_not ih i = (d, Contains-head d ds, cc)
    go (asks w) ih i = later (ih (kept ++ record { fault = fault_raised lines d.fault; ask = w } ∷ []) i)

members_by_order : (c : Changed) (less equal greater : List Changed) (o : Ordering) (P : Type 0) →
    (Contains less c → P) → (Contains equal c → P) → (Contains greater c → P) → Contains (by_order o less equal greater) c → P
members_by_order c less equal greater Less P l e g h = l h
members_by_order c less equal greater Equal P l e g h = e h
members_by_order c less equal greater Greater P l e g h = g h

members_merged_from : (a : Changed) (rest : List Changed → List Changed) (P : Changed → Type 0) → P a →
    ((bs : List Changed) → ((c : Changed) → Contains bs c → P c) → (c : Changed) → Contains (rest bs) c → P c) →
    (bs : List Changed) → ((c : Changed) → Contains bs c → P c) → (c : Changed) → Contains (merged_from a rest bs) c → P c
members_merged_from a rest P pa ih [] h c there = elim (Contains-cons_cases a (rest []) c there) [ inl same ↦ subst P same pa | inr later ↦ ih [] h c later ]
members_merged_from a rest P pa ih (b ∷ bs) h c there =
    members_by_order c (a ∷ rest (b ∷ bs)) (b ∷ rest bs) (b ∷ merged_from a rest bs) (needle_cmp a.0 b.0) (P c)
    (λ k. elim (Contains-cons_cases a (rest (b ∷ bs)) c k) [ inl same ↦ subst P same pa | inr later ↦ ih (b ∷ bs) h c later ])
    (λ k. elim (Contains-cons_cases b (rest bs) c k) [ inl same ↦ subst P same (h b (Contains-head b bs)) | inr later ↦ ih bs (λ d j. h d (Contains-tail b bs d j)) c later ])
    (λ k. elim (Contains-cons_cases b (merged_from a rest bs) c k) [ inl same ↦ subst P same (h b (Contains-head b bs)) | inr later ↦ members_merged_from a rest P pa ih bs (λ d j. h d (Contains-tail b bs d j)) c later ])
    there

-- what holds of every change of both lists holds of the merged list's
pub members_merged : (P : Changed → Type 0) (others bs : List Changed) → ((c : Changed) → Contains others c → P c) → ((c : Changed) → Contains bs c → P c) →
    (c : Changed) → Contains (changes_merged others bs) c → P c
members_merged P [] bs h k c there = k c there
members_merged P (a ∷ others) bs h k c there =
    members_merged_from a (changes_merged others) P (h a (Contains-head a others)) (λ cs j. members_merged P others cs (λ d i. h d (Contains-tail a others d i)) j) bs k c there

-- a fact of each change of the second block, read through the first
pub members_through : (P : Changed → Type 0) (a : List Changed) (lines : ℕ) (bs : List Changed) → ((c : Changed) → Contains bs c → P (change_through a lines c)) →
    (c : Changed) → Contains (changes_through a lines bs) c → P c
members_through P a lines [] h c there = absurd (Contains-none c there)
members_through P a lines (b ∷ bs) h c there = elim (Contains-cons_cases (change_through a lines b) (changes_through a lines bs) c there) [
  | inl same ↦ subst P same (h b (Contains-head b bs))
  | inr later ↦ members_through P a lines bs (λ d j. h d (Contains-tail b bs d j)) c later
]

segs_through : (a : List Changed) (lines : ℕ) (segs : List Seg) (x : Seg) → Contains (through a lines segs) x →
    ((n : Needle) × Contains (segments_on a n) x) ⊎ ((o : ℕ) × Contains segs (New o) × (x ≡ New (lines + o)))
segs_through a lines [] x h = absurd (Contains-none x h)
segs_through a lines (Entry n ∷ segs) x h = elim (Contains-append_cases (segments_on a n) (through a lines segs) x h) [
  | inl here ↦ inl (n, here)
  | inr later ↦ elim (segs_through a lines segs x later) [ inl v ↦ inl v | inr v ↦ inr (v.0, Contains-tail (Entry n) segs (New v.0) v.1, v.2) ]
]
segs_through a lines (New o ∷ segs) x h = elim (Contains-cons_cases (New (lines + o)) (through a lines segs) x h) [
  | inl same ↦ inr (o, Contains-head (New o) segs, sym same)
  | inr later ↦ elim (segs_through a lines segs x later) [ inl v ↦ inl v | inr v ↦ inr (v.0, Contains-tail (New o) segs (New v.0) v.1, v.2) ]
]

segments_offsets : (a : List Changed) (lines : ℕ) (known : List Needle) → ((c : Changed) → Contains a c → ChangeFits lines known c) →
    (n : Needle) (o : ℕ) → Contains (segments_on a n) (New o) → o < lines
segments_offsets a lines known fit n o h = elim (changed_or_own a n) [
  | inl c ↦ (fit c.0 c.1).offsets o (subst (λ segs. Contains segs (New o)) c.3 h)
  | inr own ↦ elim (Contains-cons_cases (Entry n) [] (New o) (subst (λ segs. Contains segs (New o)) own h)) [ inl same ↦ absurd (cc) | inr none ↦ absurd (Contains-none (New o) none) ]
]

change_fits_through : (a : List Changed) (first second : List Needle) (lines more : ℕ) (c : Changed) → ((d : Changed) → Contains a d → ChangeFits lines first d) →
    ChangeFits more second c → ChangeFits (lines + more) (first ++ second) (change_through a lines c)
change_fits_through a first second lines more c fit h = record {
  needle = Contains-append_right first second c.0 h.needle;
  entries = λ n there. within_known a lines first second (entry_needles_of c.1) fit h.entries n (subst (λ ns. Contains ns n) (entries_of-through a lines c.1) there);
  offsets = λ o there. elim (segs_through a lines c.1 (New o) there) [
    | inl v ↦ (let before = segments_offsets a lines first fit v.0 o v.1 in omega arith)
    | inr v ↦ (let same : o ≡ lines + v.0 = cc in let ahead = h.offsets v.0 v.1 in omega arith)
  ];
}

change_fits_more : (first second : List Needle) (lines more : ℕ) (c : Changed) → ChangeFits lines first c → ChangeFits (lines + more) (first ++ second) c
change_fits_more first second lines more c h = record {
  needle = Contains-append_left first second c.0 h.needle;
  entries = λ n there. Contains-append_left first second n (h.entries n there);
  offsets = λ o there. let before = h.offsets o there in omega arith;
}

asks_fit_more : (carriers limit : ℕ) (first second : List Needle) (w : Ask) → AskFits carriers limit first w → AskFits carriers limit (first ++ second) w
asks_fit_more carriers limit first second (size_at_most names most) h = record {
  some = h.some;
  distinct = h.distinct;
  within = λ n there. Contains-append_left first second n (h.within n there);
  at_most = h.at_most;
}
asks_fit_more carriers limit first second (rack_is x) h = tt
asks_fit_more carriers limit first second (carrier_in x) h = h
asks_fit_more carriers limit first second (carrier_out x) h = h
asks_fit_more carriers limit first second hook_free h = tt
asks_fit_more carriers limit first second (hook_is x) h = h
asks_fit_more carriers limit first second (hook_lacks x) h = h
asks_fit_more carriers limit first second (last_near c at float) h = h

-- no change owns nothing twice
pub owns_nothing : OwnsOnce []
owns_nothing = record {
  distinct = λ m. ((λ h. Contains-none m h), tt);
  owner = λ m other n h k. only_itself m n h ∙ sym (only_itself other n k);
}

-- no change leaves all sizes
pub sizes_nothing : (limit : ℕ) (size : Needle → ℕ) → ((n : Needle) → size n ≤ limit) → (m : Needle) → size_after [] size m ≤ limit
sizes_nothing limit size h m = omega (arith, h m)

-- either way
pub NestedOrApart-comm : (xs ys : List Needle) → NestedOrApart xs ys → NestedOrApart ys xs
NestedOrApart-comm xs ys (inl w) = inr (inl w)
NestedOrApart-comm xs ys (inr (inl w)) = inl w
NestedOrApart-comm xs ys (inr (inr p)) = inr (inr (λ n h k. p n k h))

-- a condition on a last needle that is left to ask is as it was, and the first block doesn't set that needle
near_from : (e : Effect) (la : List Last) (a : List Changed) (q : Ask) (c : CarrierNo) (n : ℤ) (f : ℕ) → read_answer e la a q ≡ asks (last_near c n f) → (q ≡ last_near c n f) × (last_at la c ≡ None)
unfolding read_answer
near_from e la a (rack_is x) c n f h = absurd (let same = where_known_asks e.rack _ (rack_is x) (last_near c n f) h in cc)
near_from e la a (carrier_in x) c n f h = absurd (let same = in_asks (contains_carrier e.came x) (contains_carrier e.went x) (carrier_in x) (last_near c n f) h in cc)
near_from e la a (carrier_out x) c n f h = absurd (let same = out_asks (contains_carrier e.came x) (contains_carrier e.went x) (carrier_out x) (last_near c n f) h in cc)
near_from e la a hook_free c n f h = absurd (let same = where_known_asks e.hook _ hook_free (last_near c n f) h in cc)
near_from e la a (hook_is x) c n f h = absurd (let same = where_known_asks e.hook _ (hook_is x) (last_near c n f) h in cc)
near_from e la a (hook_lacks x) c n f h = absurd (let same = where_known_asks e.hook _ (hook_lacks x) (last_near c n f) h in cc)
near_from e la a (size_at_most names most) c n f h = absurd (let same = (size_asks (names_through a names) (new_through a names) most (last_near c n f) h).0 in cc)
near_from e la a (last_near d m g) c n f h =
    let both = near_asks (last_at la d) (last_near d m g) m g (last_near c n f) h in
    let one : d ≡ c = cc in
    (sym both.0, subst (λ x. last_at la x ≡ None) one both.1)

agree_of : (p q : Ask) → ((c : CarrierNo) (n : ℤ) (f : ℕ) (d : CarrierNo) (m : ℤ) (g : ℕ) → p ≡ last_near c n f → q ≡ last_near d m g → c ≡ d → (n ≡ m) × (f ≡ g)) → AgreeOnLast p q
agree_of (last_near c n f) (last_near d m g) h = h c n f d m g refl refl
agree_of p q h = tt

agree_in : (p q : Ask) (c : CarrierNo) (n : ℤ) (f : ℕ) (d : CarrierNo) (m : ℤ) (g : ℕ) → AgreeOnLast p q → p ≡ last_near c n f → q ≡ last_near d m g → c ≡ d → (n ≡ m) × (f ≡ g)
agree_in p q c n f d m g h i j = subst (λ x. AgreeOnLast (last_near c n f) x) j (subst (λ x. AgreeOnLast x q) i h)

set_of : (lasts : List Last) (w : Ask) → ((c : CarrierNo) (n : ℤ) (f : ℕ) → w ≡ last_near c n f → is_some (last_at lasts c) ≡ true) → IsSet lasts w
set_of lasts (last_near c n f) h = h c n f refl
set_of lasts w h = tt

set_in : (lasts : List Last) (w : Ask) (c : CarrierNo) (n : ℤ) (f : ℕ) → IsSet lasts w → w ≡ last_near c n f → is_some (last_at lasts c) ≡ true
set_in lasts w c n f h i = subst (IsSet lasts) i h

not_set : (o : Option (Option ℤ)) → is_some o ≡ true → o ≡ None → ⊥
not_set o some none = false≢true (sym (ap is_some none) ∙ some)

some_first : (o p : Option (Option ℤ)) → is_some o ≡ true → is_some (or_last o p) ≡ true
some_first None p e = absurd (false≢true e)
some_first (Some x) p e = refl

some_second : (o p : Option (Option ℤ)) → is_some p ≡ true → is_some (or_last o p) ≡ true
some_second None p e = e
some_second (Some x) p e = refl

-- the conditions of both blocks
pub record ChecksAreGood (carriers limit lines : ℕ) (known : List Needle) (checks : List AskedCondition) : Type 0 where
  pub asks_fit : (c : AskedCondition) → Contains checks c → AskFits carriers limit known c.ask
  pub within : (c : AskedCondition) → Contains checks c → c.fault.line < lines
  pub in_turn : NeverFalls checks
  pub irredundant : IsIrredundant checks
  pub nested : (c d : AskedCondition) → Contains checks c → Contains checks d → NestedOrApart (size_needles_in c.ask) (size_needles_in d.ask)
  pub agree : (c d : AskedCondition) → Contains checks c → Contains checks d → AgreeOnLast c.ask d.ask

first_past : (a : Summary) (rest : List AskedCondition) → ((c : AskedCondition) → Contains a.checks c → c.fault.line < a.lines) → NotPast a.checks a.lines rest
first_past a rest h c d there k = let before = h c there in omega arith

-- the conditions of both blocks fit
pub checks_fit_both : (carriers limit : ℕ) (first second : List Needle) (a b : Summary) (e : Effect) → IsGood carriers limit first a → IsFair carriers limit second b →
    ((c : AskedCondition) → Contains a.checks c → NeedlesLieIn a.changes (size_needles_in c.ask)) →
    ((c : AskedCondition) → Contains a.checks c → IsSet a.lasts c.ask) →
    ChecksAreGood carriers limit (a.lines + b.lines) (first ++ second) (reads e a.lasts a.changes a.lines a.checks b.checks).checks
checks_fit_both carriers limit first second a b e ga gb lies nears =
    let all = reads_members e a.lasts a.changes a.lines a.checks b.checks in
    record {
      asks_fit = λ c there. elim (all c there) [
        | inl here ↦ asks_fit_more carriers limit first second c.ask (ga.fair.asks_fit c here)
        | inr d ↦ asks_fit_read carriers limit first second e a.lasts a.changes a.lines d.0.ask c.ask ga.fair.owns ga.fair.changes_fit (gb.asks_fit d.0 d.1) d.2
      ];
      within = λ c there. elim (all c there) [
        | inl here ↦ (let before = ga.fair.within c here in omega arith)
        | inr d ↦ (let before = gb.within d.0 d.1 in let same : c.fault.line ≡ a.lines + d.0.fault.line = ap (λ (f : Fault). f.line) d.3 in omega arith)
      ];
      in_turn = (reads_in_turn e a.lasts a.changes a.lines a.checks b.checks ga.fair.in_turn (first_past a b.checks ga.fair.within) gb.in_turn).in_turn;
      irredundant = reads_irredundant e a.lasts a.changes a.lines a.checks b.checks ga.irredundant;
      nested = λ c d here there. elim (all c here) [
        | inl ca ↦ elim (all d there) [
          | inl da ↦ ga.fair.nested c d ca da
          | inr db ↦ subst (NestedOrApart (size_needles_in c.ask)) (sym (names_read e a.lasts a.changes db.0.ask d.ask db.2))
              (nested_or_apart_through a.changes (size_needles_in c.ask) (size_needles_in db.0.ask) ga.fair.owns (lies c ca))
        ]
        | inr cb ↦ elim (all d there) [
          | inl da ↦ NestedOrApart-comm (size_needles_in d.ask) (size_needles_in c.ask) (subst (NestedOrApart (size_needles_in d.ask)) (sym (names_read e a.lasts a.changes cb.0.ask c.ask cb.2))
              (nested_or_apart_through a.changes (size_needles_in d.ask) (size_needles_in cb.0.ask) ga.fair.owns (lies d da)))
          | inr db ↦ subst (λ xs. NestedOrApart xs (size_needles_in d.ask)) (sym (names_read e a.lasts a.changes cb.0.ask c.ask cb.2))
              (subst (NestedOrApart (names_through a.changes (size_needles_in cb.0.ask))) (sym (names_read e a.lasts a.changes db.0.ask d.ask db.2))
              (nested_through a.changes (size_needles_in cb.0.ask) (size_needles_in db.0.ask) ga.fair.owns (gb.nested cb.0 db.0 cb.1 db.1)))
        ]
      ];
      agree = λ c d here there. agree_of c.ask d.ask (λ x n f y m g p q same. elim (all c here) [
        | inl ca ↦ elim (all d there) [
          | inl da ↦ agree_in c.ask d.ask x n f y m g (ga.fair.agree c d ca da) p q same
          | inr db ↦ absurd (not_set (last_at a.lasts x) (set_in a.lasts c.ask x n f (nears c ca) p)
              (subst (λ z. last_at a.lasts z ≡ None) (sym same) (near_from e a.lasts a.changes db.0.ask y m g (db.2 ∙ ap asks q)).1))
        ]
        | inr cb ↦ elim (all d there) [
          | inl da ↦ absurd (not_set (last_at a.lasts y) (set_in a.lasts d.ask y m g (nears d da) q)
              (subst (λ z. last_at a.lasts z ≡ None) same (near_from e a.lasts a.changes cb.0.ask x n f (cb.2 ∙ ap asks p)).1))
          | inr db ↦ agree_in cb.0.ask db.0.ask x n f y m g (gb.agree cb.0 db.0 cb.1 db.1)
              (near_from e a.lasts a.changes cb.0.ask x n f (cb.2 ∙ ap asks p)).0 (near_from e a.lasts a.changes db.0.ask y m g (db.2 ∙ ap asks q)).0 same
        ]
      ]);
    }

-- a summary that ends broken is good where its conditions are and the fault stands last
broken_good : (carriers limit lines : ℕ) (known : List Needle) (checks : List AskedCondition) (f : Fault) → ChecksAreGood carriers limit lines known checks →
    f.line < lines → ((c : AskedCondition) → Contains checks c → c.fault.line ≤ f.line) →
    IsGood carriers limit known (record { lines = lines; made = 0; checks = checks; changes = []; lasts = []; ending = Broken f })
unfolding IsStrictlySortedBy
broken_good carriers limit lines known checks f h before last = record {
  fair = record {
    made = omega arith;
    asks_fit = h.asks_fit;
    within = h.within;
    in_turn = h.in_turn;
    nested = h.nested;
    agree = h.agree;
    in_order = tt;
    changes_fit = λ c there. absurd (Contains-none c there);
    owns = owns_nothing;
    lasts_in_order = tt;
    lasts_fit = λ l there. absurd (Contains-none l there);
    sizes = λ size small meets m. sizes_nothing limit size small m;
    ending = record { within = before; last = last; unchanged = refl; no_lasts = refl; made = refl };
  };
  irredundant = h.irredundant;
}

-- set algebra of the two effects, a carrier at a time
both_apart : (in1 out1 in2 out2 : Bool) → (in1 ≡ true → out1 ≡ false) → (in2 ≡ true → out2 ≡ false) →
    ((in1 && not out2) || in2) ≡ true → ((out1 && not in2) || out2) ≡ false
both_apart true true in2 out2 h k e = absurd (let no_more = h refl in cc)
both_apart true false true true h k e = absurd (let no_more = k refl in cc)
both_apart true false true false h k e = refl
both_apart true false false true h k e = absurd (cc)
both_apart true false false false h k e = refl
both_apart false true true true h k e = absurd (let no_more = k refl in cc)
both_apart false true true false h k e = refl
both_apart false true false out2 h k e = absurd (cc)
both_apart false false true true h k e = absurd (let no_more = k refl in cc)
both_apart false false true false h k e = refl
both_apart false false false out2 h k e = absurd (cc)

-- sets of the declared carriers
came_within : (carriers came went more : ℕ) → came < 2 ^ carriers → more < 2 ^ carriers → bit_or (without_set came went) more < 2 ^ carriers
came_within carriers came went more h k =
    let both : bit_and came went < 2 ^ carriers = omega (arith, and_le_l came went, h) in
    or_lt carriers (without_set came went) more (xor_lt carriers came (bit_and came went) h both) k

hook_within : (carriers : ℕ) (new old : Option ℕ) → IfSome new (λ set. set < 2 ^ carriers) → IfSome old (λ set. set < 2 ^ carriers) → IfSome (or_old new old) (λ set. set < 2 ^ carriers)
hook_within carriers None old h k = k
hook_within carriers (Some set) old h k = h

open_good : (carriers limit : ℕ) (first second : List Needle) (a b : Summary) (e f : Effect) → IsGood carriers limit first a → IsFair carriers limit second b →
    ThroughFits carriers a e → ThroughFits carriers b f → (reads e a.lasts a.changes a.lines a.checks b.checks).stop ≡ None →
    IsGood carriers limit (first ++ second) (record {
      lines = a.lines + b.lines;
      made = a.made + b.made;
      checks = (reads e a.lasts a.changes a.lines a.checks b.checks).checks;
      changes = changes_merged a.changes (changes_through a.changes a.lines b.changes);
      lasts = lasts_of_both a.lasts b.lasts;
      ending = Through (effect_of_both e f);
    })
open_good carriers limit first second a b e f ga gb ta tb goes_on =
    let h = checks_fit_both carriers limit first second a b e ga gb ta.lies ta.nears in
    let all = reads_members e a.lasts a.changes a.lines a.checks b.checks in
    let plain = all_plain carriers limit first second e a.lasts a.changes a.lines b.checks ga.fair.owns ga.fair.changes_fit gb.asks_fit in
    record {
      fair = record {
        made = (let p = ga.fair.made in let q = gb.made in omega arith);
        asks_fit = h.asks_fit;
        within = h.within;
        in_turn = h.in_turn;
        nested = h.nested;
        agree = h.agree;
        in_order = order_merged a.changes (changes_through a.changes a.lines b.changes) ga.fair.in_order (order_through a.changes a.lines b.changes gb.in_order);
        changes_fit = members_merged (ChangeFits (a.lines + b.lines) (first ++ second)) a.changes (changes_through a.changes a.lines b.changes)
            (λ c there. change_fits_more first second a.lines b.lines c (ga.fair.changes_fit c there))
            (members_through (ChangeFits (a.lines + b.lines) (first ++ second)) a.changes a.lines b.changes
            (λ c there. change_fits_through a.changes first second a.lines b.lines c ga.fair.changes_fit (gb.changes_fit c there)));
        owns = OwnsOnce-both a.changes b.changes a.lines gb.in_order ga.fair.owns gb.owns;
        lasts_in_order = order_both a.lasts b.lasts ga.fair.lasts_in_order;
        lasts_fit = members_both (λ (l : Last). l.carrier.0 < carriers) a.lasts b.lasts ga.fair.lasts_fit gb.lasts_fit;
        sizes = λ size small meets m.
            let middle = ga.fair.sizes size small (λ c there. meets c (reads_longer e a.lasts a.changes a.lines a.checks b.checks c there)) in
            let second_meets = reads_meets e a.lasts a.changes a.lines a.checks b.checks size plain goes_on meets in
            let bound = gb.sizes (size_after a.changes size) middle second_meets m in
            subst (λ segs. sum_by size (entry_needles_of segs) + new_of segs ≤ limit) (sym (segments_on-both a.changes b.changes a.lines m gb.in_order))
            (omega (
              arith,
              bound,
              ap (sum_by size) (entries_of-through a.changes a.lines (segments_on b.changes m)),
              new_of-through a.changes a.lines (segments_on b.changes m),
              sum_by-size_after a.changes size (entries_on b.changes m),
            ));
        ending = record {
          lies = λ c there. LiesIn-both a.changes b.changes a.lines (size_needles_in c.ask) gb.in_order (elim (all c there) [
            | inl here ↦ first_lies a.changes b.changes (size_needles_in c.ask) ga.fair.owns (ta.lies c here)
            | inr d ↦ subst (λ xs. ((x : Needle) × AreNeedlesWithin xs (names_through a.changes (entries_on b.changes x))) ⊎ ((x : Needle) → IsApart xs (names_through a.changes (entries_on b.changes x))))
                (sym (names_read e a.lasts a.changes d.0.ask c.ask d.2)) (second_lies a.changes b.changes (size_needles_in d.0.ask) ga.fair.owns (tb.lies d.0 d.1))
          ]);
          apart = λ c came. has_after e.went f.went f.came c ∙ both_apart (contains_carrier e.came c) (contains_carrier e.went c) (contains_carrier f.came c) (contains_carrier f.went c) (ta.apart c) (tb.apart c) (sym (has_after e.came f.came f.went c) ∙ came);
          came = came_within carriers e.came f.went f.came ta.came tb.came;
          went = came_within carriers e.went f.came f.went ta.went tb.went;
          hook = hook_within carriers f.hook e.hook tb.hook ta.hook;
          nears = λ c there. set_of (lasts_of_both a.lasts b.lasts) c.ask (λ x n g p.
              ap is_some (last_at-both a.lasts b.lasts x gb.lasts_in_order)
              ∙ elim (all c there) [
                | inl here ↦ some_second (last_at b.lasts x) (last_at a.lasts x) (set_in a.lasts c.ask x n g (ta.nears c here) p)
                | inr d ↦ some_first (last_at b.lasts x) (last_at a.lasts x)
                    (set_in b.lasts d.0.ask x n g (tb.nears d.0 d.1) (near_from e a.lasts a.changes d.0.ask x n g (d.2 ∙ ap asks p)).0)
              ]);
        };
      };
      irredundant = h.irredundant;
    }

stopped_good : (carriers limit : ℕ) (first second : List Needle) (a b : Summary) (e : Effect) (f : Fault) → IsGood carriers limit first a → IsFair carriers limit second b →
    ThroughFits carriers a e → (reads e a.lasts a.changes a.lines a.checks b.checks).stop ≡ Some f →
    IsGood carriers limit (first ++ second) (record { lines = a.lines + b.lines; made = 0; checks = (reads e a.lasts a.changes a.lines a.checks b.checks).checks; changes = []; lasts = []; ending = Broken f })
stopped_good carriers limit first second a b e f ga gb ta is =
    let stop_at = reads_stop e a.lasts a.changes a.lines a.checks b.checks f is in
    let before = gb.within stop_at.0 stop_at.1 in
    let same : a.lines + stop_at.0.fault.line ≡ f.line = ap (λ (x : Fault). x.line) stop_at.2 in
    broken_good carriers limit (a.lines + b.lines) (first ++ second) (reads e a.lasts a.changes a.lines a.checks b.checks).checks f
    (checks_fit_both carriers limit first second a b e ga gb ta.lies ta.nears) (omega arith)
    ((reads_in_turn e a.lasts a.changes a.lines a.checks b.checks ga.fair.in_turn (first_past a b.checks ga.fair.within) gb.in_turn).stops_last f is)

ends_broken_good : (carriers limit : ℕ) (first second : List Needle) (a b : Summary) (e : Effect) (f : Fault) → IsGood carriers limit first a → IsFair carriers limit second b →
    ThroughFits carriers a e → BrokenFits b f →
    IsGood carriers limit (first ++ second) (record { lines = a.lines + b.lines; made = 0; checks = (reads e a.lasts a.changes a.lines a.checks b.checks).checks; changes = []; lasts = []; ending = Broken (fault_raised a.lines f) })
ends_broken_good carriers limit first second a b e f ga gb ta tb =
    broken_good carriers limit (a.lines + b.lines) (first ++ second) (reads e a.lasts a.changes a.lines a.checks b.checks).checks (fault_raised a.lines f)
    (checks_fit_both carriers limit first second a b e ga gb ta.lies ta.nears) (let before = tb.within in omega arith)
    (λ c there. elim (reads_members e a.lasts a.changes a.lines a.checks b.checks c there) [
      | inl here ↦ (let before = ga.fair.within c here in omega arith)
      | inr d ↦ (let before = tb.last d.0 d.1 in let same : c.fault.line ≡ a.lines + d.0.fault.line = ap (λ (x : Fault). x.line) d.3 in omega arith)
    ])

open_cases : (carriers limit : ℕ) (first second : List Needle) (a b : Summary) (e : Effect) (ending : Ending) → IsGood carriers limit first a → IsFair carriers limit second b →
    ThroughFits carriers a e → EndingFits carriers b ending → (reads e a.lasts a.changes a.lines a.checks b.checks).stop ≡ None →
    IsGood carriers limit (first ++ second) (record {
      lines = a.lines + b.lines;
      made = made_with ending (a.made + b.made);
      checks = (reads e a.lasts a.changes a.lines a.checks b.checks).checks;
      changes = changes_with ending (changes_merged a.changes (changes_through a.changes a.lines b.changes));
      lasts = lasts_with ending (lasts_of_both a.lasts b.lasts);
      ending = ending_after a.lines e ending;
    })
open_cases carriers limit first second a b e (Broken f) ga gb ta tb is = ends_broken_good carriers limit first second a b e f ga gb ta tb
open_cases carriers limit first second a b e (Through f) ga gb ta tb is = open_good carriers limit first second a b e f ga gb ta tb is

closed_good : (carriers limit : ℕ) (first second : List Needle) (a b : Summary) (e : Effect) (stop : Option Fault) → IsGood carriers limit first a → IsFair carriers limit second b →
    ThroughFits carriers a e → (reads e a.lasts a.changes a.lines a.checks b.checks).stop ≡ stop →
    IsGood carriers limit (first ++ second) (closed_at stop (reads e a.lasts a.changes a.lines a.checks b.checks).checks e a b)
closed_good carriers limit first second a b e (Some f) ga gb ta is = stopped_good carriers limit first second a b e f ga gb ta is
closed_good carriers limit first second a b e None ga gb ta is = open_cases carriers limit first second a b e b.ending ga gb ta gb.ending is

known_more : (carriers limit : ℕ) (first second : List Needle) (lines more : ℕ) (checks : List AskedCondition) → ChecksAreGood carriers limit lines first checks → ChecksAreGood carriers limit (lines + more) (first ++ second) checks
known_more carriers limit first second lines more checks h = record {
  asks_fit = λ c there. asks_fit_more carriers limit first second c.ask (h.asks_fit c there);
  within = λ c there. let before = h.within c there in omega arith;
  in_turn = h.in_turn;
  irredundant = h.irredundant;
  nested = h.nested;
  agree = h.agree;
}

composed_good_at : (carriers limit : ℕ) (first second : List Needle) (a b : Summary) (ending : Ending) → IsGood carriers limit first a → IsFair carriers limit second b →
    EndingFits carriers a ending → IsGood carriers limit (first ++ second) (composed_at ending a b)
composed_good_at carriers limit first second a b (Broken f) ga gb ta =
    broken_good carriers limit (a.lines + b.lines) (first ++ second) a.checks f
    (known_more carriers limit first second a.lines b.lines a.checks (record { asks_fit = ga.fair.asks_fit; within = ga.fair.within; in_turn = ga.fair.in_turn; irredundant = ga.irredundant; nested = ga.fair.nested; agree = ga.fair.agree }))
    (let before = ta.within in omega arith) ta.last
composed_good_at carriers limit first second a b (Through e) ga gb ta =
    closed_good carriers limit first second a b e (reads e a.lasts a.changes a.lines a.checks b.checks).stop ga gb ta refl

-- A good summary and a fair one compose to a good one, of the needles of both.
pub composed_good_fair : (carriers limit : ℕ) (first second : List Needle) (a b : Summary) → IsGood carriers limit first a → IsFair carriers limit second b →
    IsGood carriers limit (first ++ second) (composed a b)
composed_good_fair carriers limit first second a b ga gb = composed_good_at carriers limit first second a b a.ending ga gb ga.fair.ending

plain_at : (carriers limit : ℕ) (first second : List Needle) (a b : Summary) (ending : Ending) → IsGood carriers limit first a → IsFair carriers limit second b → AllNameOnceThrough ending a b
plain_at carriers limit first second a b (Broken f) ga gb = tt
plain_at carriers limit first second a b (Through e) ga gb = all_plain carriers limit first second e a.lasts a.changes a.lines b.checks ga.fair.owns ga.fair.changes_fit gb.asks_fit

-- Their composition is running one after the other, with the first fault kept.
pub composed_runs_fair : (carriers limit : ℕ) (first second : List Needle) (a b : Summary) → IsGood carriers limit first a → IsFair carriers limit second b →
    (s : State) (k : ℕ) → summary_outcome (composed a b) s k ≡ and_then (summary_outcome a s k) (λ t. summary_outcome b t (k + a.lines))
composed_runs_fair carriers limit first second a b ga gb s k =
    composed_applied a b s k gb.in_order gb.lasts_in_order (plain_at carriers limit first second a b a.ending ga gb)

-- Two good summaries compose to a good one, of the needles of both.
pub composed_good : (carriers limit : ℕ) (first second : List Needle) (a b : Summary) → IsGood carriers limit first a → IsGood carriers limit second b →
    IsGood carriers limit (first ++ second) (composed a b)
composed_good carriers limit first second a b ga gb = composed_good_fair carriers limit first second a b ga gb.fair

-- Composition of good summaries is running one after the other, with the first fault kept.
pub composed_runs_both : (carriers limit : ℕ) (first second : List Needle) (a b : Summary) → IsGood carriers limit first a → IsGood carriers limit second b →
    (s : State) (k : ℕ) → summary_outcome (composed a b) s k ≡ and_then (summary_outcome a s k) (λ t. summary_outcome b t (k + a.lines))
composed_runs_both carriers limit first second a b ga gb s k = composed_runs_fair carriers limit first second a b ga gb.fair s k

ask_within : (carriers limit : ℕ) (known more : List Needle) (w : Ask) → AreNeedlesWithin known more → AskFits carriers limit known w → AskFits carriers limit more w
ask_within carriers limit known more (size_at_most names most) within h = record {
  some = h.some;
  distinct = h.distinct;
  within = λ n there. within n (h.within n there);
  at_most = h.at_most;
}
ask_within carriers limit known more (rack_is x) within h = tt
ask_within carriers limit known more (carrier_in x) within h = h
ask_within carriers limit known more (carrier_out x) within h = h
ask_within carriers limit known more hook_free within h = tt
ask_within carriers limit known more (hook_is x) within h = h
ask_within carriers limit known more (hook_lacks x) within h = h
ask_within carriers limit known more (last_near c at float) within h = h

-- A good summary stays good where more needles are known, in whatever order.
pub good_within : (carriers limit : ℕ) (known more : List Needle) (a : Summary) → AreNeedlesWithin known more → IsGood carriers limit known a → IsGood carriers limit more a
good_within carriers limit known more a within g = record {
  fair = record {
    made = g.fair.made;
    asks_fit = λ c there. ask_within carriers limit known more c.ask within (g.fair.asks_fit c there);
    within = g.fair.within;
    in_turn = g.fair.in_turn;
    nested = g.fair.nested;
    agree = g.fair.agree;
    in_order = g.fair.in_order;
    changes_fit = λ c there. (let fits = g.fair.changes_fit c there in record {
      needle = within c.0 fits.needle;
      entries = λ n held. within n (fits.entries n held);
      offsets = fits.offsets;
    });
    owns = g.fair.owns;
    lasts_in_order = g.fair.lasts_in_order;
    lasts_fit = g.fair.lasts_fit;
    sizes = g.fair.sizes;
    ending = g.fair.ending;
  };
  irredundant = g.irredundant;
}
