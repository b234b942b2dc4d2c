-- The loops that a run makes from one of its lines on.
use Rattle.std.proofs.Common.{◌≡◌, ℕ, ◌+◌, ◌<◌, ◌≤◌, List, [], ◌∷◌, ◌++◌, drop, length, get_or, Option, None, Some, is_some, true, refl, ap, sym, ◌∙◌, add_assoc}
use Rattle.std.specs.Option.{option_to_list}
use Rattle.std.proofs.lemmas.Bool.{true≢false}
use Rattle.std.proofs.lemmas.List.{drop_more, drop_all}
use Rattle.knit_base.specs.declared.profile.Profile.{Profile}
use Rattle.knit_base.specs.declared.instr.Read.{Read}
use Rattle.knit_base.specs.declared.rule.Reason.{Reason}
use Rattle.carriage_model.specs.declared.verdict.LoopFact.{LoopFact}
use Rattle.carriage_model.specs.State.{State}
use Rattle.carriage_model.specs.Rules.{broken}
use Rattle.carriage_model.specs.Steps.{step}
use Rattle.carriage_model.specs.Loops.{loops_made, made_on, fact_made}

unfold_reads : (reads : List Read) (i : ℕ) (r : Read) → i < length reads → r ≡ get_or reads i r → drop i reads ≡ r ∷ drop (i + 1) reads
unfold_reads reads i r within is = drop_more reads i r within ∙ ap (λ x. x ∷ drop (i + 1) reads) (sym is)

-- the loops from here on, by the next line
pub loops-line : (profile : Profile) (reads : List Read) (first i : ℕ) (r : Read) (s : State) → i < length reads → r ≡ get_or reads i r
    → loops_made profile s (first + i) (drop i reads)
    ≡ made_on (broken profile r s) (fact_made (first + i) r s) (loops_made profile (step profile (first + i) r s) (first + (i + 1)) (drop (i + 1) reads))
loops-line profile reads first i r s within is =
    ap (loops_made profile s (first + i)) (unfold_reads reads i r within is)
    ∙ ap (λ k. made_on (broken profile r s) (fact_made (first + i) r s) (loops_made profile (step profile (first + i) r s) k (drop (i + 1) reads))) (add_assoc first i 1)

-- the loops from here on, where the next line breaks no rule
pub loops-next : (profile : Profile) (reads : List Read) (first i : ℕ) (r : Read) (s : State) → i < length reads → r ≡ get_or reads i r → broken profile r s ≡ None
    → loops_made profile s (first + i) (drop i reads)
    ≡ option_to_list (fact_made (first + i) r s) ++ loops_made profile (step profile (first + i) r s) (first + (i + 1)) (drop (i + 1) reads)
loops-next profile reads first i r s within is sound =
    loops-line profile reads first i r s within is
    ∙ ap (λ b. made_on b (fact_made (first + i) r s) (loops_made profile (step profile (first + i) r s) (first + (i + 1)) (drop (i + 1) reads))) sound

made_on-stop : (b : Option Reason) (fact : Option LoopFact) (later : List LoopFact) → is_some b ≡ true → made_on b fact later ≡ []
made_on-stop None fact later e = absurd (true≢false (sym e))
made_on-stop (Some reason) fact later e = refl

-- no loops from here on, where the next line breaks a rule
pub loops-stop : (profile : Profile) (reads : List Read) (first i : ℕ) (r : Read) (s : State) → i < length reads → r ≡ get_or reads i r → is_some (broken profile r s) ≡ true
    → loops_made profile s (first + i) (drop i reads) ≡ []
loops-stop profile reads first i r s within is broke =
    loops-line profile reads first i r s within is
    ∙ made_on-stop (broken profile r s) (fact_made (first + i) r s) (loops_made profile (step profile (first + i) r s) (first + (i + 1)) (drop (i + 1) reads)) broke

-- no loops behind the last line
pub loops-end : (profile : Profile) (reads : List Read) (first i : ℕ) (s : State) → length reads ≤ i → loops_made profile s (first + i) (drop i reads) ≡ []
loops-end profile reads first i s past = ap (loops_made profile s (first + i)) (drop_all i reads past)
