-- The line at which a carriage stopped, while lines come behind it.
use Rattle.std.proofs.Common.{◌≡◌, ℕ, ◌+◌, ◌-◌, ◌<◌, ◌≤◌, Bool, true, false, List, [], ◌∷◌, ◌++◌, length, get_or, Option, None, Some, is_some, refl, ap, sym, subst, ◌∙◌, arith, length-append}
use Rattle.std.specs.Prelude.{unwrap_or}
use Rattle.std.proofs.lemmas.Bool.{true≢false}
use Rattle.std.proofs.lemmas.List.{get_or_append_left}
use Rattle.std.proofs.lemmas.Option.{unwrap_or-slice_get}
use Rattle.std.proofs.Math.Seq.{get_or-append_seam}
use Rattle.knit_base.specs.declared.instr.Read.{Read}
use Rattle.knit_base.specs.declared.profile.Profile.{Profile}
use Rattle.knit_base.specs.declared.rule.Fault.{Fault}
use Rattle.knit_base.specs.declared.rule.Reason.{Reason}
use Rattle.carriage_model.specs.declared.carriage.Carriage.{Carriage}
use Rattle.carriage_model.specs.declared.verdict.Verdict.{Verdict}
use Rattle.carriage_model.specs.declared.verdict.Verdict.TheVariants as verdict
use Rattle.carriage_model.specs.declared.verdict.LoopFact.{LoopFact}
use Rattle.carriage_model.specs.Carriage.{HasRun, StandsAfter, is_stopped}
use Rattle.carriage_model.specs.Rules.{broken}
use Rattle.carriage_model.specs.Run.{Ended, Ends, Stops, run, run_on}
use Rattle.carriage_model.specs.State.{State, empty_state}
use Rattle.carriage_model.specs.Steps.{step}
use Rattle.carriage_model.specs.Verdict.{IsVerdict}
use Rattle.carriage_model.proofs.CarriageRuns.{one_more, run-more}
use Rattle.block_summary.specs.Verdicts.{broken_line, numbered_line}
use Rattle.file_run.specs.Runs.{IsBrokenLine, IsKeptText, KeepsBroken, KeepsText}

-- the line with a number stays where lines come behind it
numbered_stays : (lines more : List (List ℕ)) (number : ℕ) → 0 < number → number ≤ length lines → numbered_line 1 (lines ++ more) number ≡ numbered_line 1 lines number
numbered_stays lines more number some within =
    unwrap_or-slice_get (lines ++ more) (number - 1) []
    ∙ get_or_append_left lines more [] (number - 1) (omega arith)
    ∙ sym (unwrap_or-slice_get lines (number - 1) [])

-- the line that comes has the number of the lines with it
numbered_last : (lines : List (List ℕ)) (line : List ℕ) (number : ℕ) → length lines + 1 ≡ number → numbered_line 1 (lines ++ line ∷ []) number ≡ line
numbered_last lines line number is =
    let place : number - 1 ≡ length lines = omega arith in
    unwrap_or-slice_get (lines ++ line ∷ []) (number - 1) []
    ∙ ap (λ i. get_or (lines ++ line ∷ []) i []) place
    ∙ get_or-append_seam lines line [] []

broken_stays : (lines more : List (List ℕ)) (fault : Fault) (kept : Option (List ℕ)) → IsBrokenLine lines fault kept → IsBrokenLine (lines ++ more) fault kept
broken_stays lines more fault kept here = record {
  some = here.some;
  within = omega (arith, here.within, length-append lines more);
  held = here.held ∙ ap Some (sym (numbered_stays lines more fault.line here.some here.within));
}

module _ (profile : Profile) (r : Read) (lines : List (List ℕ)) (line : List ℕ) (old new : Carriage) (was now : Option (List ℕ)) where
  -- the line comes behind lines that break no rule
  comes : (k : ℕ) (b : Option Reason) (s t : State) → old.fault ≡ None → StandsAfter new (run_on k b s (Ends t)) → length lines + 1 ≡ k
      → IsKeptText lines old.fault was → KeepsBroken new.fault was line now → IsKeptText (lines ++ line ∷ []) new.fault now
  comes k None s t none stands is kept keeps =
      let before : was ≡ None = subst (λ f. IsKeptText lines f was) none kept in
      let same : now ≡ was = subst (λ f. KeepsBroken f was line now) stands.0 keeps in
      subst (λ f. IsKeptText (lines ++ line ∷ []) f now) (sym stands.0) (same ∙ before)
  comes k (Some reason) s t none stands is kept keeps =
      let before : was ≡ None = subst (λ f. IsKeptText lines f was) none kept in
      let stored : KeepsText was line now = subst (λ f. KeepsBroken f was line now) stands keeps in
      let held : now ≡ Some line = subst (λ o. KeepsText o line now) before stored in
      subst (λ f. IsKeptText (lines ++ line ∷ []) f now) (sym stands) (record {
        some = omega arith;
        within = omega (arith, length-append lines (line ∷ []));
        held = held ∙ ap Some (sym (numbered_last lines line k is));
      })

  goes_on : (k : ℕ) (ended : Ended) → StandsAfter old ended → StandsAfter new (one_more profile k r ended) → length lines + 1 ≡ k
      → IsKeptText lines old.fault was → KeepsBroken new.fault was line now → IsKeptText (lines ++ line ∷ []) new.fault now
  goes_on k (Ends s) stood stands is kept keeps = comes k (broken profile r s) s (step profile k r s) stood.0 stands is kept keeps
  goes_on k (Stops s fault) stood stands is kept keeps =
      let here : IsBrokenLine lines fault was = subst (λ f. IsKeptText lines f was) stood kept in
      let stored : KeepsText was line now = subst (λ f. KeepsBroken f was line now) stands keeps in
      let held : now ≡ Some (numbered_line 1 lines fault.line) = subst (λ o. KeepsText o line now) here.held stored in
      subst (λ f. IsKeptText (lines ++ line ∷ []) f now) (sym stands)
      (broken_stays lines (line ∷ []) fault now (record { some = here.some; within = here.within; held = held }))

-- the line is kept where the carriage has stopped
pub keeps-by : (fault : Option Fault) (old new : Option (List ℕ)) (line : List ℕ) → (is_some fault ≡ true → KeepsText old line new) → (is_some fault ≡ false → new ≡ old) → KeepsBroken fault old line new
keeps-by None old new line stopped goes = goes refl
keeps-by (Some fault) old new line stopped goes = stopped refl

-- one line more was carried out, and is kept where it is the first that breaks a rule
pub kept-more : (profile : Profile) (with_loops : Bool) (first : ℕ) (reads : List Read) (r : Read) (lines : List (List ℕ)) (line : List ℕ) (old new : Carriage) (was now : Option (List ℕ))
    → HasRun profile with_loops first reads old → HasRun profile with_loops first (reads ++ r ∷ []) new → length lines + 1 ≡ first + length reads
    → IsKeptText lines old.fault was → KeepsBroken new.fault was line now → IsKeptText (lines ++ line ∷ []) new.fault now
kept-more profile with_loops first reads r lines line old new was now here more is kept keeps =
    goes_on profile r lines line old new was now (first + length reads) (run profile empty_state first reads) here.stands
    (subst (StandsAfter new) (run-more profile empty_state first reads r) more.stands) is kept keeps

-- a run that stopped
abbrev pub HasStopped : Ended → Type 0
HasStopped (Ends s) = ⊥
HasStopped (Stops s fault) = Unit {0}

stays_on : (k : ℕ) (o : Option Reason) (s : State) (rest both : Ended) → HasStopped (run_on k o s rest) → (HasStopped rest → both ≡ rest) → run_on k o s both ≡ run_on k o s rest
stays_on k None s rest both stopped later = later stopped
stays_on k (Some reason) s rest both stopped later = refl

run_stays : (profile : Profile) (s : State) (k : ℕ) (xs more : List Read) → HasStopped (run profile s k xs) → run profile s k (xs ++ more) ≡ run profile s k xs
run_stays profile s k [] more stopped = absurd stopped
run_stays profile s k (x ∷ xs) more stopped =
    stays_on k (broken profile x s) s (run profile (step profile k x s) (k + 1) xs) (run profile (step profile k x s) (k + 1) (xs ++ more)) stopped
    (λ later. run_stays profile (step profile k x s) (k + 1) xs more later)

stops_still : (lines more : List (List ℕ)) (old new : Carriage) (kept : Option (List ℕ)) (ended both : Ended) → StandsAfter old ended → StandsAfter new both → (HasStopped ended → both ≡ ended)
    → is_stopped old ≡ true → IsKeptText lines old.fault kept → IsKeptText (lines ++ more) new.fault kept
stops_still lines more old new kept (Ends s) both stood stands same stopped here = absurd (true≢false (sym stopped ∙ ap is_some stood.0))
stops_still lines more old new kept (Stops s fault) both stood stands same stopped here =
    let stays : new.fault ≡ Some fault = subst (StandsAfter new) (same tt) stands in
    subst (λ f. IsKeptText (lines ++ more) f kept) (sym stays) (broken_stays lines more fault kept (subst (λ f. IsKeptText lines f kept) stood here))

-- no line is kept where the carriage goes on
pub keeps-none : (fault : Option Fault) (kept : Option (List ℕ)) (line : List ℕ) → is_some fault ≡ false → KeepsBroken fault kept line kept
keeps-none None kept line going = refl
keeps-none (Some fault) kept line going = absurd (true≢false going)

-- lines behind the one that broke a rule were passed over
pub kept-over : (profile : Profile) (with_loops : Bool) (first : ℕ) (reads more : List Read) (lines over : List (List ℕ)) (old new : Carriage) (kept : Option (List ℕ))
    → HasRun profile with_loops first reads old → HasRun profile with_loops first (reads ++ more) new → is_stopped old ≡ true
    → IsKeptText lines old.fault kept → IsKeptText (lines ++ over) new.fault kept
kept-over profile with_loops first reads more lines over old new kept here after stopped held =
    stops_still lines over old new kept (run profile empty_state first reads) (run profile empty_state first (reads ++ more)) here.stands after.stands
    (run_stays profile empty_state first reads more) stopped held

told_by : (lines : List (List ℕ)) (count : ℕ) (fault : Option Fault) (kept : Option (List ℕ)) (result : Verdict) (ended : Ended) (loops : List LoopFact) (carriage : Carriage) → StandsAfter carriage ended
    → IsVerdict count result ended loops → IsKeptText lines carriage.fault kept → unwrap_or kept [] ≡ broken_line 1 lines result
told_by lines count fault kept (verdict.Sound final) (Ends s) loops carriage stands is held =
    ap (λ o. unwrap_or o []) (subst (λ f. IsKeptText lines f kept) stands.0 held)
told_by lines count fault kept (verdict.Sound final) (Stops s stopped) loops carriage stands is held = absurd is
told_by lines count fault kept (verdict.Broken told) (Ends s) loops carriage stands is held = absurd is
told_by lines count fault kept (verdict.Broken told) (Stops s stopped) loops carriage stands is held =
    let here : IsBrokenLine lines stopped kept = subst (λ f. IsKeptText lines f kept) stands held in
    ap (λ o. unwrap_or o []) here.held ∙ ap (λ (f : Fault). numbered_line 1 lines f.line) (sym is)

-- the line that is kept is the one at which the verdict is broken
pub kept-broken : (profile : Profile) (with_loops : Bool) (first count : ℕ) (reads : List Read) (lines : List (List ℕ)) (kept : Option (List ℕ)) (result : Verdict) (loops : List LoopFact) (carriage : Carriage)
    → HasRun profile with_loops first reads carriage → IsVerdict count result (run profile empty_state first reads) loops → IsKeptText lines carriage.fault kept
    → unwrap_or kept [] ≡ broken_line 1 lines result
kept-broken profile with_loops first count reads lines kept result loops carriage here is held =
    told_by lines count carriage.fault kept result (run profile empty_state first reads) loops carriage here.stands is held
