-- Needles hold few loops, so that all of them fit in a count of 32 bits.
use Rattle.std.proofs.Common.{◌≡◌, ℕ, ◌+◌, ◌*◌, ◌≤◌, Bool, true, false, cond, List, [], ◌∷◌, ◌++◌, length, map, Option, None, Some, refl, sym, ap, subst, ◌∙◌, arith, length-append}
use Rattle.std.specs.declared.cmp.Ordering.TheVariants.{Less}
use Rattle.std.specs.List.{AllByRecursion}
use Rattle.std.specs.List.Sorted.{IsStrictlySortedBy}
use Rattle.std.specs.Ordering.{is_eq}
use Rattle.std.proofs.lemmas.List.Sums.{sum_by-cons}
use Rattle.knit_base.specs.Limits.{IsLawfulProfile}
use Rattle.knit_base.specs.declared.instr.Instr.TheVariants.{Knit, Tuck, Split, Xfer, Drop}
use Rattle.knit_base.specs.declared.instr.Instr.{Instr}
use Rattle.knit_base.specs.declared.instr.Read.{Read}
use Rattle.knit_base.specs.declared.instr.Read.TheVariants as read
use Rattle.knit_base.specs.declared.rule.Reason.{Reason}
use Rattle.knit_base.specs.declared.profile.Profile.{Profile}
use Rattle.knit_base.specs.declared.needle.Needle.{Needle}
use Rattle.knit_base.specs.Needle.{needle_cmp, same_needle, same_needle-true}
use Rattle.carriage_model.specs.declared.verdict.LoopFact.{LoopFact}
use Rattle.carriage_model.specs.declared.verdict.Stack.{Stack}
use Rattle.carriage_model.specs.declared.verdict.Verdict.{Verdict}
use Rattle.carriage_model.specs.declared.verdict.Verdict.TheVariants as verdict
use Rattle.carriage_model.specs.State.{State, empty_state, with_stack, stacks_transferred}
use Rattle.carriage_model.specs.Rules.{broken, broken_instr}
use Rattle.carriage_model.specs.Steps.{step, step_instr}
use Rattle.carriage_model.specs.Run.{run, run_on, Ended, Ends, Stops}
use Rattle.carriage_model.specs.Loops.{loops_made}
use Rattle.carriage_model.specs.Verdict.{IsVerdict, loops_on, held_on, HoldsFew}
use Rattle.carriage_model.proofs.LawfulLines.{loops_at_most_64, size_unbroken}
use Rattle.knit_base.proofs.Needles.{same_needle-refl}

-- no needle holds more than 64 loops
abbrev HoldFew : (Needle → List ℕ) → Type 0
HoldFew stacks = (n : Needle) → length (stacks n) ≤ 64

chosen-few : (b : Bool) (x y : List ℕ) → length x ≤ 64 → length y ≤ 64 → length (cond b x y) ≤ 64
chosen-few true x y here there = here
chosen-few false x y here there = there

with_stack-few : (stacks : Needle → List ℕ) (n : Needle) (loops : List ℕ) → length loops ≤ 64 → HoldFew stacks → HoldFew (with_stack stacks n loops)
with_stack-few stacks n loops here all m = chosen-few (same_needle n m) loops (stacks m) here (all m)

transferred-few : (stacks : Needle → List ℕ) (n n2 : Needle) (left : List ℕ) → length left ≤ 64 → length (stacks n2) + length (stacks n) ≤ 64 → HoldFew stacks → HoldFew (stacks_transferred n n2 left stacks)
transferred-few stacks n n2 left one together all =
    let joined : length (stacks n2 ++ stacks n) ≤ 64 = omega (arith, length-append (stacks n2) (stacks n)) in
    with_stack-few (with_stack stacks n2 (stacks n2 ++ stacks n)) n left one (with_stack-few stacks n2 (stacks n2 ++ stacks n) joined all)

step_instr-few : (profile : Profile) (k : ℕ) (i : Instr) (s : State) → IsLawfulProfile profile → broken_instr profile i s ≡ None → HoldFew s.stacks → HoldFew (step_instr k i s).stacks
step_instr-few profile k (Knit dir n []) s limits sound all = with_stack-few s.stacks n [] (omega arith) all
step_instr-few profile k (Knit dir n (c ∷ cs)) s limits sound all = with_stack-few s.stacks n (k ∷ []) (omega arith) all
step_instr-few profile k (Tuck dir n []) s limits sound all = all
step_instr-few profile k (Tuck dir n (c ∷ cs)) s limits sound all =
    let room : length (s.stacks n) + 1 ≤ 64 = loops_at_most_64 profile (length (s.stacks n) + 1) 2 limits (size_unbroken profile (Tuck dir n (c ∷ cs)) s sound) in
    let joined : length (s.stacks n ++ k ∷ []) ≤ 64 = omega (arith, length-append (s.stacks n) (k ∷ [])) in
    with_stack-few s.stacks n (s.stacks n ++ k ∷ []) joined all
step_instr-few profile k (Split dir n n2 []) s limits sound all =
    transferred-few s.stacks n n2 [] (omega arith) (loops_at_most_64 profile (length (s.stacks n2) + length (s.stacks n)) 3 limits (size_unbroken profile (Split dir n n2 []) s sound)) all
step_instr-few profile k (Split dir n n2 (c ∷ cs)) s limits sound all =
    transferred-few s.stacks n n2 (k ∷ []) (omega arith)
    (loops_at_most_64 profile (length (s.stacks n2) + length (s.stacks n)) 3 limits (size_unbroken profile (Split dir n n2 (c ∷ cs)) s sound)) all
step_instr-few profile k (Xfer n n2) s limits sound all =
    transferred-few s.stacks n n2 [] (omega arith) (loops_at_most_64 profile (length (s.stacks n2) + length (s.stacks n)) 2 limits (size_unbroken profile (Xfer n n2) s sound)) all
step_instr-few profile k (Drop n) s limits sound all = with_stack-few s.stacks n [] (omega arith) all
step_instr-few profile k i s limits sound all = all

step-few : (profile : Profile) (k : ℕ) (r : Read) (s : State) → IsLawfulProfile profile → broken profile r s ≡ None → HoldFew s.stacks → HoldFew (step profile k r s).stacks
step-few profile k (read.Instr i) s limits sound all = step_instr-few profile k i s limits sound all
step-few profile k r s limits sound all = all

abbrev EndsFew : Ended → Type 0
EndsFew (Ends s) = HoldFew s.stacks
EndsFew (Stops s fault) = Unit {0}

run_on-few : (k : ℕ) (b : Option Reason) (s : State) (rest : Ended) → (b ≡ None → EndsFew rest) → EndsFew (run_on k b s rest)
run_on-few k None s rest there = there refl
run_on-few k (Some reason) s rest there = tt

run-few : (profile : Profile) (s : State) (k : ℕ) (rs : List Read) → IsLawfulProfile profile → HoldFew s.stacks → EndsFew (run profile s k rs)
run-few profile s k [] limits all = all
run-few profile s k (r ∷ rs) limits all =
    run_on-few k (broken profile r s) s (run profile (step profile k r s) (k + 1) rs) (λ sound. run-few profile (step profile k r s) (k + 1) rs limits (step-few profile k r s limits sound all))

abbrev needle_of : Stack → Needle
needle_of stack = stack.needle

-- a needle before all those of the list holds none of its loops
before-none : (n : Needle) (list : List Stack) → AllByRecursion (λ m. needle_cmp n m ≡ Less) (map needle_of list) → loops_on list n ≡ []
before-none n [] all = refl
before-none n (stack ∷ list) all =
    ap (λ b. cond b stack.loops (loops_on list n)) (ap is_eq all.0) ∙ before-none n list all.1

tail-few : (stack : Stack) (list : List Stack) (n : Needle) → loops_on list stack.needle ≡ [] → (b : Bool) → same_needle n stack.needle ≡ b → length (cond b stack.loops (loops_on list n)) ≤ 64 → length (loops_on list n) ≤ 64
tail-few stack list n away true same here = omega (arith, ap length (ap (loops_on list) (same_needle-true n stack.needle same) ∙ away))
tail-few stack list n away false same here = here

held-few : (list : List Stack) → IsStrictlySortedBy needle_cmp (map needle_of list) → HoldFew (loops_on list) → held_on list ≤ 64 * length list
unfolding IsStrictlySortedBy
held-few [] sorted all = omega arith
held-few (stack ∷ list) sorted all =
    let own : length (cond (same_needle stack.needle stack.needle) stack.loops (loops_on list stack.needle)) ≤ 64 = all stack.needle in
    let here : length stack.loops ≤ 64 = subst (λ b. length (cond b stack.loops (loops_on list stack.needle)) ≤ 64) (same_needle-refl stack.needle) own in
    let there : held_on list ≤ 64 * length list =
    held-few list sorted.1 (λ n. tail-few stack list n (before-none stack.needle list sorted.0) (same_needle n stack.needle) refl (all n)) in
    omega (arith, sum_by-cons (λ (s : Stack). length s.loops) stack list)

-- a verdict's list of needles is no longer than four beds of all numbers
abbrev pub ListsFew : Verdict → Type 0
ListsFew (verdict.Sound final) = length final.stacks ≤ 262144
ListsFew (verdict.Broken fault) = Unit {0}

verdict-few : (lines : ℕ) (v : Verdict) (ended : Ended) (loops : List LoopFact) → IsVerdict lines v ended loops → ListsFew v → EndsFew ended → HoldsFew v
verdict-few lines (verdict.Sound final) (Ends s) loops is short all =
    let each : HoldFew (loops_on final.stacks) = λ n. subst (λ l. length l ≤ 64) (sym (is.stacks.loops n)) (all n) in
    omega (arith, held-few final.stacks is.stacks.in_order each)
verdict-few lines (verdict.Sound final) (Stops s fault) loops is short all = absurd is
verdict-few lines (verdict.Broken fault) ended loops is short all = tt

-- the verdict on readings holds few loops
pub holds-few : (profile : Profile) (first lines : ℕ) (rs : List Read) (v : Verdict) → IsLawfulProfile profile
    → IsVerdict lines v (run profile empty_state first rs) (loops_made profile empty_state first rs) → ListsFew v → HoldsFew v
holds-few profile first lines rs v limits is short =
    verdict-few lines v (run profile empty_state first rs) (loops_made profile empty_state first rs) is short
    (run-few profile empty_state first rs limits (λ n. omega arith))
