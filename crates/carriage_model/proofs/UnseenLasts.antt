-- A run that keeps last needles where floats have no limit makes the same loops and has the same verdict.
use Rattle.std.proofs.Common.{◌≡◌, ℕ, ◌+◌, List, [], ◌∷◌, Option, None, Some, refl, ap, sym, subst, ◌∙◌}
use Rattle.std.specs.Prelude.{ℤ}
use Rattle.knit_base.specs.declared.instr.Instr.{Instr}
use Rattle.knit_base.specs.declared.instr.Instr.TheVariants.{CarryIn, CarryOut, HookIn, HookOut, ReleaseHook, Stitch, Pause, Extension, Rack, Knit, Tuck, Miss, Split, Xfer, Drop, Amiss}
use Rattle.knit_base.specs.declared.instr.Read.{Read}
use Rattle.knit_base.specs.declared.instr.Read.TheVariants as read
use Rattle.knit_base.specs.declared.rule.Reason.{Reason}
use Rattle.knit_base.specs.declared.profile.Profile.{Profile}
use Rattle.knit_base.specs.declared.yarns.CarrierNo.{CarrierNo}
use Rattle.carriage_model.specs.declared.verdict.LoopFact.{LoopFact}
use Rattle.carriage_model.specs.declared.verdict.Verdict.{Verdict}
use Rattle.carriage_model.specs.declared.verdict.Verdict.TheVariants as verdict
use Rattle.carriage_model.specs.Loops.{fact_made, loops_made, made_on}
use Rattle.carriage_model.specs.Rules.{broken, broken_instr}
use Rattle.carriage_model.specs.Run.{Ended, Ends, run, run_on}
use Rattle.carriage_model.specs.State.{State, empty_state}
use Rattle.carriage_model.specs.Steps.{given_lasts, step, step_instr}
use Rattle.carriage_model.specs.Unseen.{AreToldAlike, keeping_loops, keeping_run, keeping_step, lasts_noted}
use Rattle.carriage_model.specs.Verdict.{IsVerdict}

-- the state with other last needles
abbrev with : State → (CarrierNo → Option ℤ) → State
with s lasts = record s { lasts = lasts }

same_reason : (profile : Profile) (instr : Instr) (s : State) (lasts : CarrierNo → Option ℤ) → profile.float ≡ None → broken_instr profile (instr) (with s lasts) ≡ broken_instr profile instr s
same_reason profile (CarryIn cs) s lasts free = refl
same_reason profile (CarryOut cs) s lasts free = refl
same_reason profile (HookIn cs) s lasts free = refl
same_reason profile (HookOut cs) s lasts free = refl
same_reason profile (ReleaseHook cs) s lasts free = refl
same_reason profile Stitch s lasts free = refl
same_reason profile Pause s lasts free = refl
same_reason profile Extension s lasts free = refl
same_reason profile (Rack q) s lasts free = refl
same_reason profile (Knit dir n []) s lasts free = rw free refl
same_reason profile (Knit dir n (c ∷ cs)) s lasts free = rw free refl
same_reason profile (Tuck dir n []) s lasts free = rw free refl
same_reason profile (Tuck dir n (c ∷ cs)) s lasts free = rw free refl
same_reason profile (Miss dir n cs) s lasts free = refl
same_reason profile (Split dir n n2 []) s lasts free = rw free refl
same_reason profile (Split dir n n2 (c ∷ cs)) s lasts free = rw free refl
same_reason profile (Xfer n n2) s lasts free = refl
same_reason profile (Drop n) s lasts free = refl
same_reason profile (Amiss n) s lasts free = refl

same_broken : (profile : Profile) (r : Read) (s : State) (lasts : CarrierNo → Option ℤ) → profile.float ≡ None → broken profile r (with s lasts) ≡ broken profile r s
same_broken profile read.Blank s lasts free = refl
same_broken profile read.Comment s lasts free = refl
same_broken profile (read.Broken reason) s lasts free = refl
same_broken profile (read.Instr instr) s lasts free = same_reason profile instr s lasts free

same_fact : (k : ℕ) (r : Read) (s : State) (lasts : CarrierNo → Option ℤ) → fact_made k r (with s lasts) ≡ fact_made k r s
same_fact k read.Blank s lasts = refl
same_fact k read.Comment s lasts = refl
same_fact k (read.Broken reason) s lasts = refl
same_fact k (read.Instr (CarryIn cs)) s lasts = refl
same_fact k (read.Instr (CarryOut cs)) s lasts = refl
same_fact k (read.Instr (HookIn cs)) s lasts = refl
same_fact k (read.Instr (HookOut cs)) s lasts = refl
same_fact k (read.Instr (ReleaseHook cs)) s lasts = refl
same_fact k (read.Instr Stitch) s lasts = refl
same_fact k (read.Instr Pause) s lasts = refl
same_fact k (read.Instr Extension) s lasts = refl
same_fact k (read.Instr (Rack q)) s lasts = refl
same_fact k (read.Instr (Knit dir n cs)) s lasts = refl
same_fact k (read.Instr (Tuck dir n cs)) s lasts = refl
same_fact k (read.Instr (Miss dir n cs)) s lasts = refl
same_fact k (read.Instr (Split dir n n2 cs)) s lasts = refl
same_fact k (read.Instr (Xfer n n2)) s lasts = refl
same_fact k (read.Instr (Drop n)) s lasts = refl
same_fact k (read.Instr (Amiss n)) s lasts = refl

same_effect : (k : ℕ) (instr : Instr) (s : State) (lasts given : CarrierNo → Option ℤ) → with (step_instr k instr (with s lasts)) given ≡ with (step_instr k instr s) given
same_effect k (CarryIn cs) s lasts given = refl
same_effect k (CarryOut cs) s lasts given = refl
same_effect k (HookIn cs) s lasts given = refl
same_effect k (HookOut cs) s lasts given = refl
same_effect k (ReleaseHook cs) s lasts given = refl
same_effect k Stitch s lasts given = refl
same_effect k Pause s lasts given = refl
same_effect k Extension s lasts given = refl
same_effect k (Rack q) s lasts given = refl
same_effect k (Knit dir n []) s lasts given = refl
same_effect k (Knit dir n (c ∷ cs)) s lasts given = refl
same_effect k (Tuck dir n []) s lasts given = refl
same_effect k (Tuck dir n (c ∷ cs)) s lasts given = refl
same_effect k (Miss dir n cs) s lasts given = refl
same_effect k (Split dir n n2 []) s lasts given = refl
same_effect k (Split dir n n2 (c ∷ cs)) s lasts given = refl
same_effect k (Xfer n n2) s lasts given = refl
same_effect k (Drop n) s lasts given = refl
same_effect k (Amiss n) s lasts given = refl

-- the line changes all but the last needles alike
same_step : (profile : Profile) (k : ℕ) (r : Read) (s : State) (lasts : CarrierNo → Option ℤ) → keeping_step profile k r (with s lasts) ≡ with (step profile k r s) (lasts_noted r lasts)
same_step profile k read.Blank s lasts = refl
same_step profile k read.Comment s lasts = refl
same_step profile k (read.Broken reason) s lasts = refl
same_step profile k (read.Instr instr) s lasts = same_effect k instr s lasts (given_lasts instr lasts)

same_loops : (profile : Profile) (s : State) (lasts : CarrierNo → Option ℤ) (k : ℕ) (rs : List Read) → profile.float ≡ None
    → loops_made profile s k rs ≡ keeping_loops profile (with s lasts) k rs
same_loops profile s lasts k [] free = refl
same_loops profile s lasts k (r ∷ rs) free =
    ap (made_on (broken profile r s) (fact_made k r s)) (same_loops profile (step profile k r s) (lasts_noted r lasts) (k + 1) rs free)
    ∙ ap (λ t. made_on (broken profile r s) (fact_made k r s) (keeping_loops profile t (k + 1) rs)) (sym (same_step profile k r s lasts))
    ∙ ap (λ fact. made_on (broken profile r s) fact (keeping_loops profile (keeping_step profile k r (with s lasts)) (k + 1) rs)) (sym (same_fact k r s lasts))
    ∙ ap (λ b. made_on b (fact_made k r (with s lasts)) (keeping_loops profile (keeping_step profile k r (with s lasts)) (k + 1) rs)) (sym (same_broken profile r s lasts free))

-- the verdict is the same for the state with other last needles, at the end or where the lines stop
verdict_there : (lines : ℕ) (result : Verdict) (s : State) (lasts : CarrierNo → Option ℤ) (loops : List LoopFact) → IsVerdict lines result (Ends s) loops → IsVerdict lines result (Ends (with s lasts)) loops
verdict_there lines (verdict.Sound final) s lasts loops is = record {
  lines_run = is.lines_run;
  loops_made = is.loops_made;
  rack = is.rack;
  ins = is.ins;
  hook = is.hook;
  stacks = is.stacks;
}
verdict_there lines (verdict.Broken fault) s lasts loops is = absurd is

verdict_on : (lines : ℕ) (result : Verdict) (k : ℕ) (b : Option Reason) (s : State) (lasts : CarrierNo → Option ℤ) (rest keeping : Ended) (loops : List LoopFact)
    → (IsVerdict lines result rest loops → IsVerdict lines result keeping loops) → IsVerdict lines result (run_on k b s rest) loops → IsVerdict lines result (run_on k b (with s lasts) keeping) loops
verdict_on lines result k None s lasts rest keeping loops same is = same is
verdict_on lines (verdict.Sound final) k (Some reason) s lasts rest keeping loops same is = absurd is
verdict_on lines (verdict.Broken fault) k (Some reason) s lasts rest keeping loops same is = is

same_verdict : (profile : Profile) (s : State) (lasts : CarrierNo → Option ℤ) (k : ℕ) (rs : List Read) (lines : ℕ) (result : Verdict) (loops : List LoopFact) → profile.float ≡ None
    → IsVerdict lines result (run profile s k rs) loops → IsVerdict lines result (keeping_run profile (with s lasts) k rs) loops
same_verdict profile s lasts k [] lines result loops free is = verdict_there lines result s lasts loops is
same_verdict profile s lasts k (r ∷ rs) lines result loops free is =
    let later : IsVerdict lines result (run profile (step profile k r s) (k + 1) rs) loops → IsVerdict lines result (keeping_run profile (keeping_step profile k r (with s lasts)) (k + 1) rs) loops =
    (λ it. subst (λ t. IsVerdict lines result (keeping_run profile t (k + 1) rs) loops) (sym (same_step profile k r s lasts))
    (same_verdict profile (step profile k r s) (lasts_noted r lasts) (k + 1) rs lines result loops free it)) in
    subst (λ b. IsVerdict lines result (run_on k b (with s lasts) (keeping_run profile (keeping_step profile k r (with s lasts)) (k + 1) rs)) loops) (sym (same_broken profile r s lasts free))
    (verdict_on lines result k (broken profile r s) s lasts _ _ loops later is)

pub told_alike : (profile : Profile) (first : ℕ) (reads : List Read) → profile.float ≡ None → AreToldAlike profile first reads
told_alike profile first reads free =
    let loops : loops_made profile empty_state first reads ≡ keeping_loops profile empty_state first reads = same_loops profile empty_state (λ c. None) first reads free in
    record {
      loops = loops;
      verdict = λ lines result is. subst (IsVerdict lines result (keeping_run profile empty_state first reads)) loops
          (same_verdict profile empty_state (λ c. None) first reads lines result (loops_made profile empty_state first reads) free is);
    }
