-- What a face says of a run from empty beds.
use Rattle.std.proofs.Common.{◌≡◌, ℕ, ◌+◌, ◌*◌, ◌^◌, ◌<◌, ◌≤◌, pos, Bool, true, false, cond, not, nat_le, nat_lt, List, [], ◌∷◌, length, map, find, All, Option, Some, None, option_map, unwrap_or, refl, sym, subst, ap, ◌∙◌, le-leb, arith}
use Rattle.std.specs.Prelude.{bit_or, bit_xor, filter}
use Rattle.std.specs.Int.Bits.{and_zero_l, or_zero_l, xor_zero_l}
use Rattle.std.specs.List.{AllByRecursion, Contains, flat_map, sum_by}
use Rattle.std.specs.List.Sorted.{IsStrictlySortedBy}
use Rattle.std.specs.Map.{lookup}
use Rattle.std.specs.Ordering.{is_eq}
use Rattle.std.specs.declared.cmp.Ordering.{Ordering}
use Rattle.std.specs.declared.cmp.Ordering.TheVariants.{Less}
use Rattle.std.proofs.lemmas.Bool.{ltb-true, ltb-false}
use Rattle.std.proofs.lemmas.List.{length-map}
use Rattle.std.proofs.lemmas.List.Elements.{All-cons, All-contains, All-nil}
use Rattle.std.proofs.lemmas.Nat.{mul-le}
use Rattle.std.proofs.lemmas.List.Sums.{sum_by-append, sum_by-cons}
use Rattle.knit_base.specs.declared.instr.Quarter.{Quarter}
use Rattle.knit_base.specs.declared.instr.Read.{Read}
use Rattle.knit_base.specs.declared.needle.Needle.{Needle}
use Rattle.knit_base.specs.declared.profile.Profile.{Profile}
use Rattle.knit_base.specs.declared.rule.Fault.{Fault}
use Rattle.knit_base.specs.Needle.{needle_cmp, same_needle, same_needle-true}
use Rattle.carriage_model.specs.declared.verdict.Brief.TheVariants as brief
use Rattle.carriage_model.specs.declared.verdict.Stack.{Stack}
use Rattle.carriage_model.specs.declared.verdict.Verdict.{Verdict}
use Rattle.carriage_model.specs.declared.verdict.Verdict.TheVariants as verdict
use Rattle.carriage_model.specs.Loops.{loops_made}
use Rattle.carriage_model.specs.Run.{Ended, run}
use Rattle.carriage_model.specs.Run.Ended.{Ends, Stops}
use Rattle.carriage_model.specs.State.{State, empty_state}
use Rattle.carriage_model.specs.Verdict.{AreStacks, IsVerdict, brief_of, held_on, loops_on}
use Rattle.face_data.specs.declared.face.Change.{Change}
use Rattle.face_data.specs.declared.face.Check.{Check}
use Rattle.face_data.specs.declared.face.Effect.{Effect}
use Rattle.face_data.specs.declared.face.Ending.{Ending}
use Rattle.face_data.specs.declared.face.Ending.TheVariants.{Through, Broken}
use Rattle.face_data.specs.declared.face.FaceView.{FaceView}
use Rattle.face_data.specs.declared.face.Seg.{Seg}
use Rattle.face_data.specs.declared.face.Seg.TheVariants.{Entry, New}
use Rattle.face_data.specs.Conditions.{ask_of, holds, part_of, size_of}
use Rattle.face_data.specs.Goodness.{EndingFits, IsGoodFace, IsInOrder}
use Rattle.face_data.specs.Segments.{Changed, new_in, new_of, read_segs, segments_on}
use Rattle.face_data.specs.Spots.{IsNumbered}
use Rattle.face_data.specs.Stands.{StandsFor, outcome_of_run}
use Rattle.face_data.specs.Summaries.{AskedCondition, Outcome, Summary, state_after_changes, summary_outcome, first_fault, ins_after, rack_after_effect}
use Rattle.face_data.specs.Summaries.Outcome.{went_on, faulted}
use Rattle.face_data.specs.Verdicts.{holds_loops, stack_left, stacks_left, verdict_of, verdict_on}
use Rattle.face_data.specs.View.{IsPacked, asked_of_check, changed_of, summary_of}
use Rattle.face_data.proofs.Items.{needles_changed, needles_distinct, in_needles, new_at_most}
use Rattle.face_data.proofs.Members.{Contains-head, Contains-tail}
use Rattle.face_data.proofs.NeedleSpots.{few_needles}
use Rattle.face_data.proofs.Stands.{ends_read}

-- empty beds hold no loops
size_on_empty : (names : List Needle) → size_of names empty_state ≡ 0
size_on_empty [] = refl
size_on_empty (n ∷ names) = size_on_empty names

pub few_on_empty : (names : List Needle) (most : ℕ) → nat_le (size_of names empty_state) most ≡ true
few_on_empty names most = ap (λ (k : ℕ). nat_le k most) (size_on_empty names) ∙ le-leb 0 most (omega arith)

pub ruleset sizes = (few_on_empty)

-- the first condition that fails
pub first_fault_found : (names : List Needle) (checks : List Check) (s : State) → first_fault (map (asked_of_check names) checks) s ≡ option_map (λ c. c.fault) (find (λ c. not (holds (ask_of names c.cond) s)) checks)
first_fault_found names [] s = refl
first_fault_found names (c ∷ cs) s = go (holds (ask_of names c.cond) s) (first_fault_found names cs s)
  where
    go : (t : Bool) → first_fault (map (asked_of_check names) cs) s ≡ option_map (λ x. x.fault) (find (λ x. not (holds (ask_of names x.cond) s)) cs)
        → cond t (first_fault (map (asked_of_check names) cs) s) (Some c.fault) ≡ option_map (λ x. x.fault) (cond (not t) (Some c) (find (λ x. not (holds (ask_of names x.cond) s)) cs))
    go true ih = ih
    go false ih = refl

pub ruleset faults = (first_fault_found)

-- a fault that is found is one of a condition
pub fault_within : (checks : List AskedCondition) (lines : ℕ) (s : State) (fault : Fault) → ((c : AskedCondition) → Contains checks c → c.fault.line < lines) → first_fault checks s ≡ Some fault → fault.line < lines
fault_within [] lines s fault within found = absurd (cc)
fault_within (c ∷ cs) lines s fault within found =
    go (holds c.ask s) (fault_within cs lines s fault (λ d there. within d (Contains-tail c cs d there))) found
  where
    go : (t : Bool) → (first_fault cs s ≡ Some fault → fault.line < lines) → cond t (first_fault cs s) (Some c.fault) ≡ Some fault → fault.line < lines
    go true rest h = rest h
    go false rest h =
        let same : c.fault ≡ fault = cc in
        subst (λ (f : Fault). f.line < lines) same (within c (Contains-head c cs))

-- the fault of a broken ending is one of a line
pub ending_within : (carriers : ℕ) (summary : Summary) (ending : Ending) (fault : Fault) → EndingFits carriers summary ending → ending ≡ Broken fault → fault.line < summary.lines
ending_within carriers summary (Broken own) fault fits is =
    let same : own ≡ fault = cc in
    subst (λ (f : Fault). f.line < summary.lines) same fits.within
ending_within carriers summary (Through effect) fault fits is = absurd (cc)

-- the needles of some of the stacks are in order where those of all are
below_filtered : (n : Needle) (stacks : List Stack) → AllByRecursion (λ m. needle_cmp n m ≡ Less) (map (λ (s : Stack). s.needle) stacks)
    → AllByRecursion (λ m. needle_cmp n m ≡ Less) (map (λ (s : Stack). s.needle) (filter holds_loops stacks))
below_filtered n [] h = tt
below_filtered n (s ∷ stacks) h = go (holds_loops s) (below_filtered n stacks h.1)
  where
    go : (t : Bool) → AllByRecursion (λ m. needle_cmp n m ≡ Less) (map (λ (x : Stack). x.needle) (filter holds_loops stacks))
        → AllByRecursion (λ m. needle_cmp n m ≡ Less) (map (λ (x : Stack). x.needle) (cond t (s ∷ filter holds_loops stacks) (filter holds_loops stacks)))
    go true rest = (h.0, rest)
    go false rest = rest

sorted_cons : (n : Needle) (ns : List Needle) → AllByRecursion (λ m. needle_cmp n m ≡ Less) ns → IsStrictlySortedBy needle_cmp ns → IsStrictlySortedBy needle_cmp (n ∷ ns)
unfolding IsStrictlySortedBy
sorted_cons n ns below rest = (below, rest)

sorted_below : (n : Needle) (ns : List Needle) → IsStrictlySortedBy needle_cmp (n ∷ ns) → AllByRecursion (λ m. needle_cmp n m ≡ Less) ns × IsStrictlySortedBy needle_cmp ns
unfolding IsStrictlySortedBy
sorted_below n ns h = (h.0, h.1)

sorted_none : IsStrictlySortedBy needle_cmp []
unfolding IsStrictlySortedBy
sorted_none = tt

sorted_filtered : (stacks : List Stack) → IsStrictlySortedBy needle_cmp (map (λ (s : Stack). s.needle) stacks) → IsStrictlySortedBy needle_cmp (map (λ (s : Stack). s.needle) (filter holds_loops stacks))
sorted_filtered [] h = sorted_none
sorted_filtered (s ∷ stacks) h =
    let b = sorted_below s.needle (map (λ (x : Stack). x.needle) stacks) h in
    go (holds_loops s) (below_filtered s.needle stacks b.0) (sorted_filtered stacks b.1)
  where
    go : (t : Bool) → AllByRecursion (λ m. needle_cmp s.needle m ≡ Less) (map (λ (x : Stack). x.needle) (filter holds_loops stacks))
        → IsStrictlySortedBy needle_cmp (map (λ (x : Stack). x.needle) (filter holds_loops stacks))
        → IsStrictlySortedBy needle_cmp (map (λ (x : Stack). x.needle) (cond t (s ∷ filter holds_loops stacks) (filter holds_loops stacks)))
    go true below rest = sorted_cons s.needle _ below rest
    go false below rest = rest

abbrev HasLoops : Stack → Type 0
HasLoops stack = 0 < length stack.loops

filtered_hold : (stacks : List Stack) → All HasLoops (filter holds_loops stacks)
filtered_hold [] = All-nil HasLoops
filtered_hold (s ∷ stacks) = go (holds_loops s) refl (filtered_hold stacks)
  where
    go : (t : Bool) → holds_loops s ≡ t → All HasLoops (filter holds_loops stacks) → All HasLoops (cond t (s ∷ filter holds_loops stacks) (filter holds_loops stacks))
    go true is rest = All-cons HasLoops s (filter holds_loops stacks) (ltb-true 0 (length s.loops) is) rest
    go false is rest = rest

no_loops : (loops : List ℕ) → nat_lt 0 (length loops) ≡ false → loops ≡ []
no_loops [] h = refl
no_loops (x ∷ xs) h = absurd (omega (arith, ltb-false 0 (length (x ∷ xs)) h))

-- a needle that stands below all that are named holds nothing
absent : (first : ℕ) (n : Needle) (changes : List Changed) → AllByRecursion (λ m. needle_cmp n m ≡ Less) (map (λ (c : Changed). c.0) changes) → loops_on (stacks_left first changes) n ≡ []
absent first n [] h = refl
absent first n (c ∷ cs) h = go (holds_loops (stack_left first c)) (absent first n cs h.1)
  where
    go : (t : Bool) → loops_on (stacks_left first cs) n ≡ [] → loops_on (cond t (stack_left first c ∷ stacks_left first cs) (stacks_left first cs)) n ≡ []
    go true rest = ap (λ (o : Ordering). cond (is_eq o) (read_segs empty_state first c.1) (loops_on (stacks_left first cs) n)) h.0 ∙ rest
    go false rest = rest

-- each needle holds what the changes say
loops_are : (first : ℕ) (n : Needle) (changes : List Changed) → IsStrictlySortedBy needle_cmp (map (λ (c : Changed). c.0) changes)
    → loops_on (stacks_left first changes) n ≡ read_segs empty_state first (segments_on changes n)
loops_are first n [] h = refl
loops_are first n (c ∷ cs) h =
    let b = sorted_below c.0 (map (λ (x : Changed). x.0) cs) h in
    go (same_needle n c.0) refl (holds_loops (stack_left first c)) refl
    (λ is. absent first n cs (subst (λ (m : Needle). AllByRecursion (λ k. needle_cmp m k ≡ Less) (map (λ (x : Changed). x.0) cs)) (sym (same_needle-true n c.0 is)) b.0))
    (loops_are first n cs b.1)
  where
    go : (t : Bool) → same_needle n c.0 ≡ t → (u : Bool) → holds_loops (stack_left first c) ≡ u
        → (same_needle n c.0 ≡ true → loops_on (stacks_left first cs) n ≡ [])
        → loops_on (stacks_left first cs) n ≡ read_segs empty_state first (segments_on cs n)
        → loops_on (cond u (stack_left first c ∷ stacks_left first cs) (stacks_left first cs)) n
        ≡ read_segs empty_state first (unwrap_or (cond t (Some c.1) (lookup (same_needle n) cs)) (Entry n ∷ []))
    go true is true kept none rest = ap (λ (x : Bool). cond x (read_segs empty_state first c.1) (loops_on (stacks_left first cs) n)) is
    go true is false kept none rest = none is ∙ sym (no_loops (read_segs empty_state first c.1) kept)
    go false is true kept none rest = ap (λ (x : Bool). cond x (read_segs empty_state first c.1) (loops_on (stacks_left first cs) n)) is ∙ rest
    go false is false kept none rest = rest

needles_left : (first : ℕ) (changes : List Changed) → map (λ (s : Stack). s.needle) (map (stack_left first) changes) ≡ map (λ (c : Changed). c.0) changes
needles_left first [] = refl
needles_left first (c ∷ cs) = ap (λ (l : List Needle). c.0 ∷ l) (needles_left first cs)

-- the stacks that are left are those of the state at the end
pub are_stacks : (first : ℕ) (changes : List Changed) (stacks : Needle → List ℕ) → IsInOrder changes → ((n : Needle) → stacks n ≡ read_segs empty_state first (segments_on changes n)) →
    AreStacks (stacks_left first changes) stacks
are_stacks first changes stacks order read = record {
  in_order = sorted_filtered (map (stack_left first) changes) (subst (IsStrictlySortedBy needle_cmp) (sym (needles_left first changes)) order);
  nonempty = filtered_hold (map (stack_left first) changes);
  loops = λ n. loops_are first n changes order ∙ sym (read n);
}

-- The verdict that a summary tells is the one on the lines that it stands for.
pub told_verdict_holds : (profile : Profile) (summary : Summary) (lines : List Read) (first : ℕ) (told : Verdict) → IsInOrder summary.changes → told ≡ verdict_of summary first → StandsFor profile summary lines
    → IsVerdict (length lines) told (run profile empty_state first lines) (loops_made profile empty_state first lines)
told_verdict_holds profile summary lines first told order is stands =
    subst (λ (v : Verdict). IsVerdict (length lines) v (run profile empty_state first lines) (loops_made profile empty_state first lines)) (sym is)
    (go (run profile empty_state first lines) refl (stands.outcome empty_state first))
  where
    go : (ended : Ended) → run profile empty_state first lines ≡ ended → summary_outcome summary empty_state first ≡ outcome_of_run ended →
        IsVerdict (length lines) (verdict_on (summary_outcome summary empty_state first) summary first) ended (loops_made profile empty_state first lines)
    go (Ends s) ends out = subst (λ (o : Outcome). IsVerdict (length lines) (verdict_on o summary first) (Ends s) (loops_made profile empty_state first lines)) (sym out) (record {
      lines_run = stands.lines_are;
      loops_made = sym (stands.made_are empty_state s first ends);
      rack = refl;
      ins = refl;
      hook = refl;
      stacks = are_stacks first summary.changes s.stacks order (ends_read profile summary lines stands empty_state s first ends);
    })
    go (Stops s fault) ends out = subst (λ (o : Outcome). IsVerdict (length lines) (verdict_on o summary first) (Stops s fault) (loops_made profile empty_state first lines)) (sym out) refl

-- from rack 0
pub rack_told : (rack : Option Quarter) → unwrap_or rack (record { 0 = pos 0 }) ≡ record { 0 = rack_after_effect rack (pos 0) }
rack_told None = refl
rack_told (Some q) = refl

-- no carrier was in action
pub ins_told : (effect : Effect) → effect.came ≡ ins_after effect 0
ins_told effect =
    sym (or_zero_l effect.came)
    ∙ ap (λ old. bit_or old effect.came) (sym (xor_zero_l 0) ∙ ap (bit_xor 0) (sym (and_zero_l effect.went)))

-- the verdict of lines that go through
pub sound_told : (summary : Summary) (effect : Effect) (first : ℕ) (stacks : List Stack) → summary_outcome summary empty_state first ≡ went_on (state_after_changes effect summary.lasts summary.changes empty_state first) →
    stacks ≡ stacks_left first summary.changes →
    verdict.Sound (record { lines = summary.lines; made = summary.made; rack = unwrap_or effect.rack (record { 0 = pos 0 }); ins = effect.came; hook = unwrap_or effect.hook 0; stacks = stacks })
    ≡ verdict_of summary first
sound_told summary effect first stacks through are =
    (λ i. verdict.Sound (record { lines = summary.lines; made = summary.made; rack = rack_told effect.rack i; ins = ins_told effect i; hook = unwrap_or effect.hook 0; stacks = are i }))
    ∙ ap (λ o. verdict_on o summary first) (sym through)

-- the verdict of lines that stop
pub broken_told : (summary : Summary) (first : ℕ) (fault : Fault) → summary_outcome summary empty_state first ≡ faulted fault → verdict.Broken fault ≡ verdict_of summary first
broken_told summary first fault stops = ap (λ o. verdict_on o summary first) (sym stops)

-- the loops of a stack are the new ones
new_left : (first : ℕ) (segs : List Seg) → length (read_segs empty_state first segs) ≡ new_of segs
new_left first [] = refl
new_left first (Entry n ∷ segs) = omega (arith, new_left first segs, sum_by-cons new_in (Entry n) segs)
new_left first (New offset ∷ segs) = omega (arith, new_left first segs, sum_by-cons new_in (New offset) segs)

-- how many new loops the changes leave
abbrev pub new_loops : List Changed → ℕ
new_loops changes = sum_by (λ (c : Changed). new_of c.1) changes

held_new : (first : ℕ) (changes : List Changed) → held_on (stacks_left first changes) ≡ new_loops changes
held_new first [] = refl
held_new first (c ∷ cs) = go (holds_loops (stack_left first c)) refl (held_new first cs) ∙ sym (sum_by-cons (λ (x : Changed). new_of x.1) c cs)
  where
    go : (t : Bool) → holds_loops (stack_left first c) ≡ t → held_on (stacks_left first cs) ≡ new_loops cs
        → held_on (cond t (stack_left first c ∷ stacks_left first cs) (stacks_left first cs)) ≡ new_of c.1 + new_loops cs
    go true is rest = sum_by-cons (λ (s : Stack). length s.loops) (stack_left first c) (stacks_left first cs) ∙ omega (arith, rest, new_left first c.1)
    go false is rest =
        let none : length (read_segs empty_state first c.1) ≡ 0 = ap length (no_loops (read_segs empty_state first c.1) is) in
        omega (arith, rest, new_left first c.1, none)

new_parts : (segs : List Seg) (changes : List Change) → new_loops (map (changed_of segs) changes) ≡ new_of (flat_map (λ (c : Change). part_of segs c.part) changes)
new_parts segs [] = refl
new_parts segs (c ∷ cs) =
    sum_by-cons (λ (x : Changed). new_of x.1) (changed_of segs c) (map (changed_of segs) cs)
    ∙ ap (λ (k : ℕ). new_of (part_of segs c.part) + k) (new_parts segs cs)
    ∙ sym (sum_by-append new_in (part_of segs c.part) (flat_map (λ (x : Change). part_of segs x.part) cs))

-- the new loops of a face's list of segments are those of its changes
pub new_in_face : (face : FaceView) → IsPacked face → new_of face.segs.now ≡ new_loops (map (changed_of face.segs.now) face.changes.now)
new_in_face face packed = ap new_of (sym packed.segs) ∙ sym (new_parts face.segs.now face.changes.now)

-- the same in short
pub brief_told : (face : FaceView) (effect : Effect) (first held : ℕ) → IsPacked face → summary_outcome (summary_of face) empty_state first ≡ went_on (state_after_changes effect (summary_of face).lasts (summary_of face).changes empty_state first) →
    held ≡ new_of face.segs.now →
    brief.Sound face.lines face.made held (unwrap_or effect.rack (record { 0 = pos 0 })) ≡ brief_of (verdict_of (summary_of face) first)
brief_told face effect first held packed through is =
    let all : held ≡ held_on (stacks_left first (summary_of face).changes) = is ∙ new_in_face face packed ∙ sym (held_new first (summary_of face).changes) in
    (λ i. brief.Sound face.lines face.made (all i) (unwrap_or effect.rack (record { 0 = pos 0 })))
    ∙ ap brief_of (sound_told (summary_of face) effect first (stacks_left first (summary_of face).changes) through refl)

new_bound : (limit : ℕ) (changes : List Changed) → ((c : Changed) → Contains changes c → new_of c.1 ≤ limit) → new_loops changes ≤ length changes * limit
new_bound limit [] each = omega arith
new_bound limit (c ∷ cs) each =
    omega (arith, each c (Contains-head c cs), new_bound limit cs (λ d there. each d (Contains-tail c cs d there)), sum_by-cons (λ (x : Changed). new_of x.1) c cs)

-- The new loops that a good face leaves can be counted in 32 bits.
pub few_new : (summary : Summary) → IsGoodFace summary → new_loops summary.changes < 2 ^ 32
few_new summary g =
    let needles = few_needles (needles_changed summary.changes) (needles_distinct summary.changes g.good.fair.in_order) numbered in
    let many : length summary.changes ≤ 2 ^ 18 = omega (arith, needles, length-map summary.changes (λ (c : Changed). c.0)) in
    let all : length summary.changes * g.limit ≤ 2 ^ 18 * 2 ^ 8 = mul-le (length summary.changes) g.limit (2 ^ 18) (2 ^ 8) many (omega (arith, g.few_loops)) in
    omega (arith, all, new_bound g.limit summary.changes (new_at_most g.carriers g.limit g.known summary g.good))
  where
    numbered : (n : Needle) → Contains (needles_changed summary.changes) n → IsNumbered n
    numbered n there =
        let c = in_needles summary.changes n there in
        All-contains IsNumbered g.known n g.numbers (subst (Contains g.known) c.2 (g.good.fair.changes_fit c.0 c.1).needle)
