-- One line more of a run.
use Rattle.std.proofs.Common.{◌≡◌, ℕ, ◌+◌, ◌≤◌, List, [], ◌∷◌, ◌++◌, length, Bool, true, false, Option, None, Some, IfSome, is_some, Result, Ok, Err, OnErr, refl, ap, sym, subst, ◌∙◌, ◌<◌, arith, append_assoc, append-nil, length-append}
use Rattle.std.proofs.lemmas.Bool.{false≢true, true≢false}
use Rattle.std.specs.Prelude.{not, ◌&&◌}
use Rattle.std.proofs.lemmas.Option.{none-some}
use Rattle.std.specs.Option.{is_none, option_to_list}
use Rattle.knit_base.specs.declared.usual.Usual.{Usual}
use Rattle.knit_base.specs.declared.usual.Usual.TheVariants as usual
use Rattle.knit_base.specs.declared.profile.Profile.{Profile}
use Rattle.knit_base.specs.declared.instr.Read.{Read}
use Rattle.knit_base.specs.declared.rule.Reason.{Reason}
use Rattle.carriage_model.specs.declared.carriage.Carriage.{Carriage}
use Rattle.carriage_model.specs.declared.verdict.LoopFact.{LoopFact}
use Rattle.carriage_model.specs.Carriage.{HasRun, StandsAfter, TellsRun, WentOver, StandsStill, loops_with, next_carriage_line}
use Rattle.carriage_model.specs.Verdict.{IsFinal, IsVerdict}
use Rattle.carriage_model.specs.declared.verdict.Final.{Final}
use Rattle.carriage_model.specs.declared.verdict.Verdict.TheVariants.{Sound}
use Rattle.carriage_model.specs.Machine.{HasNeedlesOf, Represents}
use Rattle.carriage_model.proofs.LoopCounts.{holds-few}
use Rattle.carriage_model.proofs.LawfulLines.{needles-kept}
use Rattle.carriage_model.specs.State.{State, empty_state}
use Rattle.carriage_model.specs.Rules.{broken, floats_asked, floats_far}
use Rattle.carriage_model.specs.Steps.{step}
use Rattle.carriage_model.specs.Run.{run, run_on, Ended, Ends, Stops}
use Rattle.carriage_model.specs.Loops.{loops_made, loops_asked, made_on, fact_made}

-- what holds anyhow holds on an error
pub on_err-anyhow : {T E P : Type 0} (r : Result T E) → P → OnErr r P
on_err-anyhow (Ok v) p = tt
on_err-anyhow (Err e) p = p

-- how the run ends with line k more, where it ended so before
abbrev pub one_more : Profile → ℕ → Read → Ended → Ended
one_more profile k r (Ends s) = run_on k (broken profile r s) s (Ends (step profile k r s))
one_more profile k r (Stops s fault) = Stops s fault

-- the loops that line k adds
abbrev pub loops_more : Profile → ℕ → Read → Ended → List LoopFact
loops_more profile k r (Ends s) = made_on (broken profile r s) (fact_made k r s) []
loops_more profile k r (Stops s fault) = []

more_on : (profile : Profile) (j k : ℕ) (r : Read) (b : Option Reason) (s : State) (rest : Ended)
    → run_on k b s (one_more profile j r rest) ≡ one_more profile j r (run_on k b s rest)
more_on profile j k r None s rest = refl
more_on profile j k r (Some reason) s rest = refl

pub run-more : (profile : Profile) (s : State) (k : ℕ) (rs : List Read) (r : Read)
    → run profile s k (rs ++ r ∷ []) ≡ one_more profile (k + length rs) r (run profile s k rs)
run-more profile s k [] r =
    let here : k ≡ k + 0 = omega arith in
    ap (λ j. one_more profile j r (Ends s)) here
run-more profile s k (q ∷ rs) r =
    let there : k + 1 + length rs ≡ k + length (q ∷ rs) = omega arith in
    ap (run_on k (broken profile q s) s) (run-more profile (step profile k q s) (k + 1) rs r)
    ∙ more_on profile (k + 1 + length rs) k r (broken profile q s) s (run profile (step profile k q s) (k + 1) rs)
    ∙ ap (λ j. one_more profile j r (run profile s k (q ∷ rs))) there

loops_on : (profile : Profile) (j k : ℕ) (r : Read) (b : Option Reason) (s : State) (rest : Ended) (fact : Option LoopFact) (later : List LoopFact)
    → made_on b fact (later ++ loops_more profile j r rest) ≡ made_on b fact later ++ loops_more profile j r (run_on k b s rest)
loops_on profile j k r None s rest fact later = sym (append_assoc (option_to_list fact) later (loops_more profile j r rest))
loops_on profile j k r (Some reason) s rest fact later = refl

pub loops-more : (profile : Profile) (s : State) (k : ℕ) (rs : List Read) (r : Read)
    → loops_made profile s k (rs ++ r ∷ []) ≡ loops_made profile s k rs ++ loops_more profile (k + length rs) r (run profile s k rs)
loops-more profile s k [] r =
    let here : k ≡ k + 0 = omega arith in
    ap (λ j. loops_more profile j r (Ends s)) here
loops-more profile s k (q ∷ rs) r =
    let there : k + 1 + length rs ≡ k + length (q ∷ rs) = omega arith in
    ap (made_on (broken profile q s) (fact_made k q s)) (loops-more profile (step profile k q s) (k + 1) rs r)
    ∙ loops_on profile (k + 1 + length rs) k r (broken profile q s) s (run profile (step profile k q s) (k + 1) rs) (fact_made k q s) (loops_made profile (step profile k q s) (k + 1) rs)
    ∙ ap (λ j. loops_made profile s k (q ∷ rs) ++ loops_more profile j r (run profile s k (q ∷ rs))) there

few_on : (b : Option Reason) (fact : Option LoopFact) (later : List LoopFact) → length (made_on b fact later) ≤ 1 + length later
few_on None None later = omega arith
few_on None (Some fact) later = omega arith
few_on (Some reason) fact later = omega arith

-- a line makes at most one loop
pub loops-few : (profile : Profile) (s : State) (k : ℕ) (rs : List Read) → length (loops_made profile s k rs) ≤ length rs
loops-few profile s k [] = omega arith
loops-few profile s k (r ∷ rs) =
    omega (arith, few_on (broken profile r s) (fact_made k r s) (loops_made profile (step profile k r s) (k + 1) rs), loops-few profile (step profile k r s) (k + 1) rs)

still-stands : (old new : Carriage) (ended : Ended) → StandsStill old new → StandsAfter old ended → StandsAfter new ended
still-stands old new (Ends s) still stands = (still.fault ∙ stands.0, still.machine.states s stands.1)
still-stands old new (Stops s fault) still stands = still.fault ∙ stands

-- where no fault stopped the carriage, it stands in a state
pub record InState (profile : Profile) (first : ℕ) (reads : List Read) (carriage : Carriage) : Type 0 where
  pub state : State
  pub ends : run profile empty_state first reads ≡ Ends state
  pub represented : Represents carriage.machine state

in_state : (profile : Profile) (first : ℕ) (reads : List Read) (carriage : Carriage) (ended : Ended) → run profile empty_state first reads ≡ ended
    → StandsAfter carriage ended → carriage.fault ≡ None → InState profile first reads carriage
in_state profile first reads carriage (Ends s) is stands none = record { state = s; ends = is; represented = stands.1 }
in_state profile first reads carriage (Stops s fault) is stands none = absurd (none-some fault (sym none ∙ stands))

pub standing : (profile : Profile) (with_loops : Bool) (first : ℕ) (reads : List Read) (carriage : Carriage) → HasRun profile with_loops first reads carriage
    → carriage.fault ≡ None → InState profile first reads carriage
standing profile with_loops first reads carriage here none =
    in_state profile first reads carriage (run profile empty_state first reads) refl here.stands none

loops_with-asked : (with_loops : Bool) (loops : List LoopFact) (fact : Option LoopFact)
    → loops_with (loops_asked with_loops loops) fact ≡ loops_asked with_loops (loops ++ option_to_list fact)
loops_with-asked true loops fact = refl
loops_with-asked false loops fact = refl

-- the loops with those of a line that breaks no rule
sound-loops : (profile : Profile) (first : ℕ) (reads : List Read) (r : Read) (s : State) → run profile empty_state first reads ≡ Ends s → broken profile r s ≡ None
    → loops_made profile empty_state first (reads ++ r ∷ []) ≡ loops_made profile empty_state first reads ++ option_to_list (fact_made (first + length reads) r s)
sound-loops profile first reads r s ends sound =
    loops-more profile empty_state first reads r
    ∙ ap (λ ended. loops_made profile empty_state first reads ++ loops_more profile (first + length reads) r ended) ends
    ∙ ap (λ b. loops_made profile empty_state first reads ++ made_on b (fact_made (first + length reads) r s) []) sound
    ∙ ap (λ more. loops_made profile empty_state first reads ++ more) (append-nil (option_to_list (fact_made (first + length reads) r s)))

-- the run of a carriage that stands still is what it was
pub run-still : (profile : Profile) (with_loops : Bool) (first : ℕ) (reads : List Read) (old new : Carriage) → HasRun profile with_loops first reads old → StandsStill old new
    → HasRun profile with_loops first reads new
run-still profile with_loops first reads old new here still = record {
  lawful = here.lawful;
  same_profile = still.same_profile ∙ here.same_profile;
  needles = needles-kept profile old.machine new.machine here.needles still.machine.kind;
  first_line = still.first_line ∙ here.first_line;
  lines = still.lines ∙ here.lines;
  stands = still-stands old new (run profile empty_state first reads) still here.stands;
  made = still.made ∙ here.made;
  loops = still.loops ∙ here.loops;
  plain = still.same_way ∙ here.plain;
}

next-is : (profile : Profile) (with_loops : Bool) (first : ℕ) (reads : List Read) (carriage : Carriage) → HasRun profile with_loops first reads carriage
    → next_carriage_line carriage ≡ first + length reads
next-is profile with_loops first reads carriage here = omega (arith, here.first_line, here.lines)

-- a line that breaks no rule was carried out
pub run-sound : (profile : Profile) (with_loops : Bool) (first : ℕ) (reads : List Read) (r : Read) (old new : Carriage) → HasRun profile with_loops first reads old → old.fault ≡ None
    → ((s : State) → Represents old.machine s → None ≡ broken old.profile r s)
    → WentOver (next_carriage_line old) r old new
    → HasRun profile with_loops first (reads ++ r ∷ []) new
run-sound profile with_loops first reads r old new here none sound over =
    let at : InState profile first reads old = standing profile with_loops first reads old here none in
    let s : State = at.state in
    let k : ℕ = first + length reads in
    let next : next_carriage_line old ≡ k = next-is profile with_loops first reads old here in
    let fits : broken profile r s ≡ None = ap (λ p. broken p r s) (sym here.same_profile) ∙ sym (sound s at.represented) in
    let loops : loops_made profile empty_state first (reads ++ r ∷ []) ≡ loops_made profile empty_state first reads ++ option_to_list (fact_made k r s) =
    sound-loops profile first reads r s at.ends fits in
    let ends : run profile empty_state first (reads ++ r ∷ []) ≡ Ends (step profile k r s) =
    run-more profile empty_state first reads r ∙ ap (one_more profile k r) at.ends ∙ ap (λ b. run_on k b s (Ends (step profile k r s))) fits in
    record {
      lawful = here.lawful;
      same_profile = over.same_profile ∙ here.same_profile;
      needles = needles-kept profile old.machine new.machine here.needles over.kind;
      first_line = over.first_line ∙ here.first_line;
      lines = omega (arith, over.lines, here.lines, length-append reads (r ∷ []));
      stands = subst (StandsAfter new) (sym ends) (over.fault ∙ none, subst (λ j. Represents new.machine (step profile j r s)) next (subst (λ p. Represents new.machine (step p (next_carriage_line old) r s)) here.same_profile (over.machine s (here.needles.floats ∙ ap (λ (p : Profile). is_some p.float) (sym here.same_profile)) at.represented)));
      made =
          over.made s
          ∙ ap (λ made. made + length (option_to_list (fact_made (next_carriage_line old) r s))) here.made
          ∙ ap (λ j. length (loops_made profile empty_state first reads) + length (option_to_list (fact_made j r s))) next
          ∙ sym (length-append (loops_made profile empty_state first reads) (option_to_list (fact_made k r s)))
          ∙ sym (ap length loops);
      loops =
          over.loops s at.represented
          ∙ ap (λ loops. loops_with loops (fact_made (next_carriage_line old) r s)) here.loops
          ∙ ap (λ j. loops_with (loops_asked with_loops (loops_made profile empty_state first reads)) (fact_made j r s)) next
          ∙ loops_with-asked with_loops (loops_made profile empty_state first reads) (fact_made k r s)
          ∙ sym (ap (loops_asked with_loops) loops);
      plain = over.same_way ∙ here.plain;
    }

-- a line that breaks a rule stops the carriage
pub run-broken : (profile : Profile) (with_loops : Bool) (first : ℕ) (reads : List Read) (r : Read) (old new : Carriage) (reason : Reason) → HasRun profile with_loops first reads old
    → new ≡ record old { lines = old.lines + 1; fault = Some (record { line = next_carriage_line old; reason = reason }) } → old.fault ≡ None
    → ((s : State) → Represents old.machine s → Some reason ≡ broken old.profile r s)
    → HasRun profile with_loops first (reads ++ r ∷ []) new
run-broken profile with_loops first reads r old new reason here is none broke =
    let at : InState profile first reads old = standing profile with_loops first reads old here none in
    let s : State = at.state in
    let k : ℕ = first + length reads in
    let fails : broken profile r s ≡ Some reason = ap (λ p. broken p r s) (sym here.same_profile) ∙ sym (broke s at.represented) in
    let loops : loops_made profile empty_state first (reads ++ r ∷ []) ≡ loops_made profile empty_state first reads =
    loops-more profile empty_state first reads r
    ∙ ap (λ ended. loops_made profile empty_state first reads ++ loops_more profile k r ended) at.ends
    ∙ ap (λ b. loops_made profile empty_state first reads ++ made_on b (fact_made k r s) []) fails
    ∙ append-nil (loops_made profile empty_state first reads) in
    let stops : run profile empty_state first (reads ++ r ∷ []) ≡ Stops s (record { line = k; reason = reason }) =
    run-more profile empty_state first reads r ∙ ap (one_more profile k r) at.ends ∙ ap (λ b. run_on k b s (Ends (step profile k r s))) fails in
    record {
      lawful = here.lawful;
      same_profile = ap (λ (c : Carriage). c.profile) is ∙ here.same_profile;
      needles = subst (λ (c : Carriage). HasNeedlesOf profile c.machine) (sym is) here.needles;
      first_line = ap (λ (c : Carriage). c.first) is ∙ here.first_line;
      lines = omega (arith, ap (λ (c : Carriage). c.lines) is, here.lines, length-append reads (r ∷ []));
      stands =
          subst (StandsAfter new) (sym stops)
          (ap (λ (c : Carriage). c.fault) is ∙ ap (λ line. Some (record { line = line; reason = reason })) (next-is profile with_loops first reads old here));
      made = ap (λ (c : Carriage). c.made) is ∙ here.made ∙ sym (ap length loops);
      loops = ap (λ (c : Carriage). c.loops) is ∙ here.loops ∙ sym (ap (loops_asked with_loops) loops);
      plain = ap (λ (c : Carriage). c.is_plain) is ∙ here.plain;
    }

stopped-after : (profile : Profile) (k : ℕ) (r : Read) (old new : Carriage) (ended : Ended) → StandsAfter old ended → is_some old.fault ≡ true → new.fault ≡ old.fault
    → StandsAfter new (one_more profile k r ended)
stopped-after profile k r old new (Ends s) stands some same = absurd (true≢false (sym some ∙ ap is_some stands.0))
stopped-after profile k r old new (Stops s fault) stands some same = same ∙ stands

stopped-loops : (profile : Profile) (k : ℕ) (r : Read) (old : Carriage) (ended : Ended) → StandsAfter old ended → is_some old.fault ≡ true → loops_more profile k r ended ≡ []
stopped-loops profile k r old (Ends s) stands some = absurd (true≢false (sym some ∙ ap is_some stands.0))
stopped-loops profile k r old (Stops s fault) stands some = refl

-- a line behind the one that broke a rule is passed over
pub run-stopped : (profile : Profile) (with_loops : Bool) (first : ℕ) (reads : List Read) (r : Read) (old new : Carriage) → HasRun profile with_loops first reads old
    → new ≡ record old { lines = old.lines + 1 } → is_some old.fault ≡ true
    → HasRun profile with_loops first (reads ++ r ∷ []) new
run-stopped profile with_loops first reads r old new here is some =
    let k : ℕ = first + length reads in
    let loops : loops_made profile empty_state first (reads ++ r ∷ []) ≡ loops_made profile empty_state first reads =
    loops-more profile empty_state first reads r
    ∙ ap (λ more. loops_made profile empty_state first reads ++ more) (stopped-loops profile k r old (run profile empty_state first reads) here.stands some)
    ∙ append-nil (loops_made profile empty_state first reads) in
    record {
      lawful = here.lawful;
      same_profile = ap (λ (c : Carriage). c.profile) is ∙ here.same_profile;
      needles = subst (λ (c : Carriage). HasNeedlesOf profile c.machine) (sym is) here.needles;
      first_line = ap (λ (c : Carriage). c.first) is ∙ here.first_line;
      lines = omega (arith, ap (λ (c : Carriage). c.lines) is, here.lines, length-append reads (r ∷ []));
      stands =
          subst (StandsAfter new) (sym (run-more profile empty_state first reads r))
          (stopped-after profile k r old new (run profile empty_state first reads) here.stands some (ap (λ (c : Carriage). c.fault) is));
      made = ap (λ (c : Carriage). c.made) is ∙ here.made ∙ sym (ap length loops);
      loops = ap (λ (c : Carriage). c.loops) is ∙ here.loops ∙ sym (ap (loops_asked with_loops) loops);
      plain = ap (λ (c : Carriage). c.is_plain) is ∙ here.plain;
    }

-- all lines behind the one that broke a rule are passed over
pub run-passed : (profile : Profile) (with_loops : Bool) (first : ℕ) (reads more : List Read) (old new : Carriage) → HasRun profile with_loops first reads old
    → new ≡ record old { lines = old.lines + length more } → is_some old.fault ≡ true
    → HasRun profile with_loops first (reads ++ more) new
run-passed profile with_loops first reads [] old new here is some =
    let same : old.lines + 0 ≡ old.lines = omega arith in
    let stands : new ≡ old = is ∙ (λ i. record old { lines = same i }) in
    subst (λ (c : Carriage). HasRun profile with_loops first (reads ++ []) c) (sym stands)
    (subst (λ (rs : List Read). HasRun profile with_loops first rs old) (sym (append-nil reads)) here)
run-passed profile with_loops first reads (r ∷ more) old new here is some =
    let next : Carriage = record old { lines = old.lines + 1 } in
    let over : HasRun profile with_loops first (reads ++ r ∷ []) next = run-stopped profile with_loops first reads r old next here refl some in
    let count : old.lines + length (r ∷ more) ≡ old.lines + 1 + length more = omega arith in
    let stands : new ≡ record next { lines = next.lines + length more } = is ∙ (λ i. record old { lines = count i }) in
    subst (λ (rs : List Read). HasRun profile with_loops first rs new) (append_assoc reads (r ∷ []) more)
    (run-passed profile with_loops first (reads ++ r ∷ []) more next new over stands some)

asked-few : (with_loops : Bool) (loops : List LoopFact) (most : ℕ) → length loops + 1 < most → IfSome (loops_asked with_loops loops) (λ ls. length ls + 1 < most)
asked-few true loops most few = few
asked-few false loops most few = tt

-- there is room for one loop more
pub kept-few : (profile : Profile) (with_loops : Bool) (first : ℕ) (reads : List Read) (carriage : Carriage) (most : ℕ) → HasRun profile with_loops first reads carriage
    → carriage.lines + 1 < most → IfSome carriage.loops (λ loops. length loops + 1 < most)
kept-few profile with_loops first reads carriage most here few =
    subst (λ kept. IfSome kept (λ (loops : List LoopFact). length loops + 1 < most)) (sym here.loops)
    (asked-few with_loops (loops_made profile empty_state first reads) most (omega (arith, loops-few profile empty_state first reads, here.lines)))

pub made-few : (profile : Profile) (with_loops : Bool) (first : ℕ) (reads : List Read) (carriage : Carriage) → HasRun profile with_loops first reads carriage
    → carriage.made ≤ carriage.lines
made-few profile with_loops first reads carriage here = omega (arith, here.made, here.lines, loops-few profile empty_state first reads)

-- what a carriage tells that no fault stopped
pub tells-sound : (profile : Profile) (with_loops : Bool) (first : ℕ) (reads : List Read) (carriage : Carriage) (final : Final) → HasRun profile with_loops first reads carriage
    → carriage.fault ≡ None
    → ((s : State) (loops : List LoopFact) → Represents carriage.machine s → carriage.made ≡ length loops → IsFinal final carriage.lines s loops)
    → length final.stacks ≤ 262144
    → TellsRun profile with_loops first reads (Sound final) carriage.loops
tells-sound profile with_loops first reads carriage final here none is short =
    let at : InState profile first reads carriage = standing profile with_loops first reads carriage here none in
    let loops : List LoopFact = loops_made profile empty_state first reads in
    let judged : IsVerdict (length reads) (Sound final) (run profile empty_state first reads) loops =
    subst (λ ended. IsVerdict (length reads) (Sound final) ended loops) (sym at.ends) (subst (λ n. IsFinal final n at.state loops) here.lines (is at.state loops at.represented here.made)) in
    record {
      verdict_is = judged;
      loops_are = here.loops;
      few = holds-few profile first (length reads) reads (Sound final) here.lawful judged short;
    }

plain_parts : (with_loops : Bool) (limit : Option ℕ) → (not with_loops && is_none limit) ≡ true → (with_loops ≡ false) × (limit ≡ None)
plain_parts true limit plain = absurd (false≢true plain)
plain_parts false None plain = (refl, refl)
plain_parts false (Some float) plain = absurd (false≢true plain)

-- a carriage that goes the plain way has no limit on floats
pub plain-floats : (profile : Profile) (with_loops : Bool) (first : ℕ) (reads : List Read) (carriage : Carriage) → HasRun profile with_loops first reads carriage → carriage.is_plain ≡ true
    → profile.float ≡ None
plain-floats profile with_loops first reads carriage here plain = (plain_parts with_loops profile.float (sym here.plain ∙ plain)).1

-- its machine keeps no last needles
pub plain-keeps : (profile : Profile) (with_loops : Bool) (first : ℕ) (reads : List Read) (carriage : Carriage) → HasRun profile with_loops first reads carriage → carriage.is_plain ≡ true
    → carriage.machine.keeps_lasts ≡ false
plain-keeps profile with_loops first reads carriage here plain = here.needles.floats ∙ ap is_some (plain-floats profile with_loops first reads carriage here plain)

-- and it keeps no loops
pub plain-loops : (profile : Profile) (with_loops : Bool) (first : ℕ) (reads : List Read) (carriage : Carriage) → HasRun profile with_loops first reads carriage → carriage.is_plain ≡ true
    → carriage.loops ≡ None
plain-loops profile with_loops first reads carriage here plain =
    here.loops ∙ ap (λ (b : Bool). loops_asked b (loops_made profile empty_state first reads)) (plain_parts with_loops profile.float (sym here.plain ∙ plain)).0

-- where floats have no limit nothing is asked of them
pub no_limit_asks_no_floats : (profile : Profile) (u : Usual) (s : State) → profile.float ≡ None → floats_asked profile u s ≡ None
no_limit_asks_no_floats profile (usual.Knit dir n c) s none = ap (λ (limit : Option ℕ). floats_far limit s n.at 3 (c ∷ [])) none
no_limit_asks_no_floats profile (usual.Tuck dir n c) s none = ap (λ (limit : Option ℕ). floats_far limit s n.at 3 (c ∷ [])) none
no_limit_asks_no_floats profile (usual.Xfer n n2) s none = refl
