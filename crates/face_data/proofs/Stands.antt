-- Summaries of two texts compose to one of the text and the other after it.
use Rattle.std.proofs.Common.{◌≡◌, ℕ, ◌+◌, List, [], ◌∷◌, ◌++◌, Option, Some, None, refl, sym, ap, ◌∙◌, arith, length, length-append}
use Rattle.std.specs.Option.{option_to_list}
use Rattle.std.proofs.lemmas.List.{append_assoc}
use Rattle.knit_base.specs.declared.instr.Read.{Read}
use Rattle.knit_base.specs.declared.needle.Needle.{Needle}
use Rattle.knit_base.specs.declared.profile.Profile.{Profile}
use Rattle.knit_base.specs.declared.rule.Fault.{Fault}
use Rattle.knit_base.specs.declared.rule.Reason.{Reason}
use Rattle.carriage_model.specs.declared.verdict.LoopFact.{LoopFact}
use Rattle.carriage_model.specs.Loops.{fact_made, loops_made, made_on}
use Rattle.carriage_model.specs.Rules.{broken}
use Rattle.carriage_model.specs.Run.{Ended, run, run_on}
use Rattle.carriage_model.specs.Run.Ended.{Ends, Stops}
use Rattle.carriage_model.specs.State.{State}
use Rattle.carriage_model.specs.Steps.{step}
use Rattle.face_data.specs.declared.face.Effect.{Effect}
use Rattle.face_data.specs.declared.face.Ending.{Ending}
use Rattle.face_data.specs.declared.face.Ending.TheVariants.{Through, Broken}
use Rattle.face_data.specs.Composition.{reads, composed, composed_at, closed_at, made_with, ending_after, and_then}
use Rattle.face_data.specs.Goodness.{IsGood, IsFair}
use Rattle.face_data.specs.declared.face.Last.{Last}
use Rattle.face_data.specs.Segments.{AreRead, Changed}
use Rattle.face_data.specs.Stands.{StandsFor, outcome_of_run}
use Rattle.face_data.specs.Summaries.{AskedCondition, Summary, Outcome, summary_outcome, first_fault, outcome_of}
use Rattle.face_data.specs.Summaries.Outcome.{went_on, faulted}
use Rattle.face_data.proofs.Goodness.{composed_good, composed_runs_both, composed_runs_fair}

closed_lines : (stop : Option Fault) (checks : List AskedCondition) (e : Effect) (a b : Summary) → (closed_at stop checks e a b).lines ≡ a.lines + b.lines
closed_lines (Some fault) checks e a b = refl
closed_lines None checks e a b = refl

lines_at : (ending : Ending) (a b : Summary) → (composed_at ending a b).lines ≡ a.lines + b.lines
lines_at (Broken fault) a b = refl
lines_at (Through e) a b = closed_lines (reads e a.lasts a.changes a.lines a.checks b.checks).stop (reads e a.lasts a.changes a.lines a.checks b.checks).checks e a b

-- the lines of both
pub lines-composed : (a b : Summary) → (composed a b).lines ≡ a.lines + b.lines
lines-composed a b = lines_at a.ending a b

made_closed : (stop : Option Fault) (checks : List AskedCondition) (e through : Effect) (a b : Summary) (ending : Ending) → b.ending ≡ ending →
    (closed_at stop checks e a b).ending ≡ Through through → (closed_at stop checks e a b).made ≡ a.made + b.made
made_closed (Some fault) checks e through a b ending is goes = absurd (cc)
made_closed None checks e through a b (Broken fault) is goes =
    let stops : ending_after a.lines e (Broken fault) ≡ Through through = ap (ending_after a.lines e) (sym is) ∙ goes in absurd (cc)
made_closed None checks e through a b (Through more) is goes = ap (λ ending. made_with ending (a.made + b.made)) is

made_at : (ending : Ending) (a b : Summary) (through : Effect) → (composed_at ending a b).ending ≡ Through through → (composed_at ending a b).made ≡ a.made + b.made
made_at (Broken fault) a b through goes = absurd (cc)
made_at (Through e) a b through goes =
    made_closed (reads e a.lasts a.changes a.lines a.checks b.checks).stop (reads e a.lasts a.changes a.lines a.checks b.checks).checks e through a b b.ending refl goes

-- the loops of both, where the block goes through
pub made-composed : (a b : Summary) (through : Effect) → (composed a b).ending ≡ Through through → (composed a b).made ≡ a.made + b.made
made-composed a b through goes = made_at a.ending a b through goes

through_outcome : (fault : Option Fault) (ending : Ending) (la : List Last) (changes : List Changed) (s t : State) (first : ℕ) → outcome_of fault ending la changes s first ≡ went_on t →
    (e : Effect) × (ending ≡ Through e)
through_outcome (Some fault) ending la changes s t first goes = absurd (cc)
through_outcome None (Broken fault) la changes s t first goes = absurd (cc)
through_outcome None (Through e) la changes s t first goes = (e, refl)

-- a block that goes on from some state doesn't end broken
pub goes_through : (a : Summary) (s t : State) (first : ℕ) → summary_outcome a s first ≡ went_on t → (e : Effect) × (a.ending ≡ Through e)
goes_through a s t first goes = through_outcome (first_fault a.checks s) a.ending a.lasts a.changes s t first goes

-- the state in which a block ends that goes on
abbrev pub state_in : Outcome → State → State
state_in (went_on t) s = t
state_in (faulted fault) s = s

-- the needles hold what the changes say where a summary goes on
pub ends_read_at : (found : Option Fault) (ending : Ending) (la : List Last) (changes : List Changed) (s t : State) (first : ℕ) → outcome_of found ending la changes s first ≡ went_on t → AreRead changes s first t.stacks
ends_read_at (Some fault) ending la changes s t first goes n = absurd (cc)
ends_read_at None (Broken fault) la changes s t first goes n = absurd (cc)
ends_read_at None (Through e) la changes s t first goes n = sym (ap (λ o. (state_in o s).stacks n) goes)

-- where lines are carried out, the needles hold what their summary says
pub ends_read : (profile : Profile) (summary : Summary) (lines : List Read) → StandsFor profile summary lines → (s t : State) (first : ℕ) → run profile s first lines ≡ Ends t →
    AreRead summary.changes s first t.stacks
ends_read profile summary lines stands s t first ends =
    ends_read_at (first_fault summary.checks s) summary.ending summary.lasts summary.changes s t first (stands.outcome s first ∙ ap outcome_of_run ends)

-- one block after another
pub and_then_same : (o : Outcome) (f g : State → Outcome) → ((t : State) → f t ≡ g t) → and_then o f ≡ and_then o g
and_then_same (went_on t) f g h = h t
and_then_same (faulted fault) f g h = refl

-- three blocks, one after the other
pub and_then_twice : (o : Outcome) (f g : State → Outcome) → and_then (and_then o f) g ≡ and_then o (λ t. and_then (f t) g)
and_then_twice (went_on t) f g = refl
and_then_twice (faulted fault) f g = refl

-- Three blocks: which two are composed first doesn't matter to any state.
pub composed-assoc : (carriers limit : ℕ) (first second third : List Needle) (a b c : Summary) → IsGood carriers limit first a → IsGood carriers limit second b →
    IsGood carriers limit third c → (s : State) (k : ℕ) → summary_outcome (composed (composed a b) c) s k ≡ summary_outcome (composed a (composed b c)) s k
composed-assoc carriers limit first second third a b c ga gb gc s k =
    composed_runs_both carriers limit (first ++ second) third (composed a b) c (composed_good carriers limit first second a b ga gb) gc s k
    ∙ ap (λ o. and_then o (λ t. summary_outcome c t (k + (composed a b).lines))) (composed_runs_both carriers limit first second a b ga gb s k)
    ∙ and_then_twice (summary_outcome a s k) (λ t. summary_outcome b t (k + a.lines)) (λ t. summary_outcome c t (k + (composed a b).lines))
    ∙ and_then_same (summary_outcome a s k) (λ t. and_then (summary_outcome b t (k + a.lines)) (λ u. summary_outcome c u (k + (composed a b).lines))) (λ t. summary_outcome (composed b c) t (k + a.lines))
    (λ t. ap (λ n. and_then (summary_outcome b t (k + a.lines)) (λ u. summary_outcome c u n)) (let e : k + (composed a b).lines ≡ k + a.lines + b.lines = omega (arith, lines-composed a b) in e)
    ∙ sym (composed_runs_both carriers limit second third b c gb gc t (k + a.lines)))
    ∙ sym (composed_runs_both carriers limit first (second ++ third) a (composed b c) ga (composed_good carriers limit second third b c gb gc) s k)

-- lines of two texts, one after the other
pub run_then : Profile → Ended → ℕ → List Read → Ended
run_then profile (Ends s) k rs = run profile s k rs
run_then profile (Stops s fault) k rs = Stops s fault

run_on_then : (profile : Profile) (k n : ℕ) (o : Option Reason) (s : State) (rest : Ended) (rs : List Read) →
    run_on k o s (run_then profile rest n rs) ≡ run_then profile (run_on k o s rest) n rs
unfolding run_then
run_on_then profile k n None s rest rs = refl
run_on_then profile k n (Some reason) s rest rs = refl

-- the run of two texts
pub run-append : (profile : Profile) (s : State) (k : ℕ) (xs ys : List Read) → run profile s k (xs ++ ys) ≡ run_then profile (run profile s k xs) (k + length xs) ys
unfolding run_then
run-append profile s k [] ys = ap (λ n. run profile s n ys) (let e : k ≡ k + 0 = omega arith in e)
run-append profile s k (x ∷ xs) ys =
    ap (run_on k (broken profile x s) s)
    (run-append profile (step profile k x s) (k + 1) xs ys
    ∙ ap (λ n. run_then profile (run profile (step profile k x s) (k + 1) xs) n ys) (let e : k + 1 + length xs ≡ k + length (x ∷ xs) = omega arith in e))
    ∙ run_on_then profile k (k + length (x ∷ xs)) (broken profile x s) s (run profile (step profile k x s) (k + 1) xs) ys

outcome_then : (profile : Profile) (ended : Ended) (k : ℕ) (rs : List Read) →
    outcome_of_run (run_then profile ended k rs) ≡ and_then (outcome_of_run ended) (λ t. outcome_of_run (run profile t k rs))
unfolding run_then
outcome_then profile (Ends s) k rs = refl
outcome_then profile (Stops s fault) k rs = refl

-- the first text was carried out where both were
pub run_then-ends : (profile : Profile) (ended : Ended) (k : ℕ) (rs : List Read) (t : State) → run_then profile ended k rs ≡ Ends t →
    (u : State) × (ended ≡ Ends u) × (run profile u k rs ≡ Ends t)
unfolding run_then
run_then-ends profile (Ends s) k rs t ends = (s, refl, ends)
run_then-ends profile (Stops s fault) k rs t ends = absurd (cc)

made_on-ends : (k : ℕ) (o : Option Reason) (s u : State) (rest : Ended) (fact : Option LoopFact) (xs ys both : List LoopFact) → run_on k o s rest ≡ Ends u →
    (rest ≡ Ends u → both ≡ xs ++ ys) → made_on o fact both ≡ made_on o fact xs ++ ys
made_on-ends k None s u rest fact xs ys both ends later = ap (λ facts. option_to_list fact ++ facts) (later ends) ∙ sym (append_assoc (option_to_list fact) xs ys)
made_on-ends k (Some reason) s u rest fact xs ys both ends later = absurd (cc)

-- the loops of both texts, where the first one is carried out
pub loops_made-append : (profile : Profile) (s u : State) (k : ℕ) (xs ys : List Read) → run profile s k xs ≡ Ends u →
    loops_made profile s k (xs ++ ys) ≡ loops_made profile s k xs ++ loops_made profile u (k + length xs) ys
loops_made-append profile s u k [] ys ends =
    let same : s ≡ u = cc in
    ap (λ t. loops_made profile t k ys) same ∙ ap (λ n. loops_made profile u n ys) (let e : k ≡ k + 0 = omega arith in e)
loops_made-append profile s u k (x ∷ xs) ys ends =
    made_on-ends k (broken profile x s) s u (run profile (step profile k x s) (k + 1) xs) (fact_made k x s) (loops_made profile (step profile k x s) (k + 1) xs)
    (loops_made profile u (k + length (x ∷ xs)) ys) (loops_made profile (step profile k x s) (k + 1) (xs ++ ys)) ends
    (λ later. loops_made-append profile (step profile k x s) u (k + 1) xs ys later
    ∙ ap (λ n. loops_made profile (step profile k x s) (k + 1) xs ++ loops_made profile u n ys) (let e : k + 1 + length xs ≡ k + length (x ∷ xs) = omega arith in e))

-- The summary of two texts, one after the other, where the second one is fair.
pub stands_fair : (profile : Profile) (carriers limit : ℕ) (first second : List Needle) (a b : Summary) (xs ys : List Read) → IsGood carriers limit first a →
    IsFair carriers limit second b → StandsFor profile a xs → StandsFor profile b ys → StandsFor profile (composed a b) (xs ++ ys)
stands_fair profile carriers limit first second a b xs ys ga gb sa sb = record {
  lines_are = omega (arith, lines-composed a b, sa.lines_are, sb.lines_are, length-append xs ys);
  outcome = outcome;
  made_are = λ s t k ends.
      let both = run_then-ends profile (run profile s k xs) (k + length xs) ys t (sym (run-append profile s k xs ys) ∙ ends) in
      let through = goes_through (composed a b) s t k (outcome s k ∙ ap outcome_of_run ends) in
      omega (
        arith,
        made-composed a b through.0 through.1,
        sa.made_are s both.0 k both.1,
        sb.made_are both.0 t (k + length xs) both.2,
        ap length (loops_made-append profile s both.0 k xs ys both.1),
        length-append (loops_made profile s k xs) (loops_made profile both.0 (k + length xs) ys),
      );
}
  where
    outcome : (s : State) (k : ℕ) → summary_outcome (composed a b) s k ≡ outcome_of_run (run profile s k (xs ++ ys))
    outcome s k =
        composed_runs_fair carriers limit first second a b ga gb s k
        ∙ ap (λ o. and_then o (λ t. summary_outcome b t (k + a.lines))) (sa.outcome s k)
        ∙ and_then_same (outcome_of_run (run profile s k xs)) (λ t. summary_outcome b t (k + a.lines)) (λ t. outcome_of_run (run profile t (k + length xs) ys))
        (λ t. sb.outcome t (k + a.lines) ∙ ap (λ n. outcome_of_run (run profile t (k + n) ys)) sa.lines_are)
        ∙ sym (outcome_then profile (run profile s k xs) (k + length xs) ys)
        ∙ ap outcome_of_run (sym (run-append profile s k xs ys))

-- The summary of two texts, one after the other.
pub stands_both : (profile : Profile) (carriers limit : ℕ) (first second : List Needle) (a b : Summary) (xs ys : List Read) → IsGood carriers limit first a →
    IsGood carriers limit second b → StandsFor profile a xs → StandsFor profile b ys → StandsFor profile (composed a b) (xs ++ ys)
stands_both profile carriers limit first second a b xs ys ga gb sa sb =
    stands_fair profile carriers limit first second a b xs ys ga gb.fair sa sb
