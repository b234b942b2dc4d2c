-- The loop of one line among those that a run makes.
use Rattle.std.proofs.Common.{◌≡◌, ◌≢◌, ℕ, ◌+◌, ◌<◌, List, [], ◌∷◌, ◌++◌, drop, length, get_or, Option, None, Some, IfSome, is_some, cond, subst, ◌≤◌, true, ap, sym, ◌∙◌, refl, arith}
use Rattle.std.specs.Option.{option_to_list}
use Rattle.std.proofs.lemmas.Bool.{eq-eqb, ne_eqb}
use Rattle.knit_base.specs.declared.instr.Instr.TheVariants.{Knit, Tuck, Split}
use Rattle.knit_base.specs.declared.profile.Profile.{Profile}
use Rattle.knit_base.specs.declared.instr.Read.{Read}
use Rattle.knit_base.specs.declared.instr.Read.TheVariants as read
use Rattle.knit_base.specs.declared.rule.Reason.{Reason}
use Rattle.carriage_model.specs.declared.machine.Machine.{Machine}
use Rattle.carriage_model.specs.declared.verdict.LoopFact.{LoopFact}
use Rattle.carriage_model.specs.State.{State, empty_state}
use Rattle.carriage_model.specs.Rules.{broken}
use Rattle.carriage_model.specs.Steps.{step}
use Rattle.carriage_model.specs.Loops.{loops_made, made_on, fact_made, fact_of}
use Rattle.carriage_model.specs.Machine.{Represents, HasNeedlesOf, IsSameKind}
use Rattle.carriage_model.proofs.LawfulLines.{needles-kept}
use Rattle.carriage_model.proofs.LoopsMade.{loops-next, loops-stop, loops-end}

abbrev pub IsOfLine : ℕ → LoopFact → Type 0
IsOfLine line fact = fact.line ≡ line

-- a line makes a loop of that line
pub fact_made-line : (k : ℕ) (r : Read) (s : State) → IfSome (fact_made k r s) (IsOfLine k)
fact_made-line k (read.Instr (Knit dir n (c ∷ cs))) s = refl
fact_made-line k (read.Instr (Tuck dir n (c ∷ cs))) s = refl
fact_made-line k (read.Instr (Split dir n n2 (c ∷ cs))) s = refl
fact_made-line k r s = tt

pub other_line : (k line : ℕ) (fact : Option LoopFact) (later : List LoopFact) → IfSome fact (IsOfLine k) → k ≢ line → fact_of line (option_to_list fact ++ later) ≡ fact_of line later
other_line k line None later named apart = refl
other_line k line (Some fact) later named apart = ap (λ b. cond b (Some fact) (fact_of line later)) (ne_eqb fact.line line (λ e. apart (sym named ∙ e)))

own_line : (line : ℕ) (fact : Option LoopFact) (later : List LoopFact) → IfSome fact (IsOfLine line) → fact_of line later ≡ None → fact_of line (option_to_list fact ++ later) ≡ fact
own_line line None later named none = none
own_line line (Some fact) later named none = ap (λ b. cond b (Some fact) (fact_of line later)) (eq-eqb fact.line line named)

-- a line other than this one makes no loop of this line
pub made_on-other : (k line : ℕ) (b : Option Reason) (fact : Option LoopFact) (later : List LoopFact) → IfSome fact (IsOfLine k) → k ≢ line → fact_of line later ≡ None → fact_of line (made_on b fact later) ≡ None
made_on-other k line None fact later named apart none = other_line k line fact later named apart ∙ none
made_on-other k line (Some reason) fact later named apart none = refl

-- later lines make no loop of this line
pub later_lines : (profile : Profile) (s : State) (k line : ℕ) (rs : List Read) → line < k → fact_of line (loops_made profile s k rs) ≡ None
later_lines profile s k line [] later = refl
later_lines profile s k line (r ∷ rs) later =
    let further : line < k + 1 = omega arith in
    made_on-other k line (broken profile r s) (fact_made k r s) (loops_made profile (step profile k r s) (k + 1) rs) (fact_made-line k r s) (λ e. omega arith) (later_lines profile (step profile k r s) (k + 1) line rs further)

-- the machine stands for a state from which the other lines make the loop of this line, if any does
pub record Seeks (profile : Profile) (reads : List Read) (first i : ℕ) (machine : Machine) (line : ℕ) : Type 0 where
  pub state : State
  pub represented : Represents machine state
  pub needles : HasNeedlesOf profile machine
  pub found : fact_of line (loops_made profile empty_state first reads) ≡ fact_of line (loops_made profile state (first + i) (drop i reads))

unfoldable pub seeks-start : (profile : Profile) (reads : List Read) (first : ℕ) (machine : Machine) (line : ℕ) → Represents machine empty_state → HasNeedlesOf profile machine → Seeks profile reads first 0 machine line
seeks-start profile reads first machine line new has =
    let here : first ≡ first + 0 = omega arith in
    record { state = empty_state; represented = new; needles = has; found = ap (λ k. fact_of line (loops_made profile empty_state k reads)) here }

unfoldable pub seeks-next : (profile : Profile) (reads : List Read) (first i : ℕ) (r : Read) (old new : Machine) (line : ℕ) → i < length reads → r ≡ get_or reads i r → first + i ≢ line
    → (here : Seeks profile reads first i old line)
    → broken profile r here.state ≡ None
    → Represents new (step profile (first + i) r here.state)
    → IsSameKind old new
    → Seeks profile reads first (i + 1) new line
seeks-next profile reads first i r old new line within is apart here sound after same = record {
  state = step profile (first + i) r here.state;
  represented = after;
  needles = needles-kept profile old new here.needles same;
  found = here.found ∙ ap (fact_of line) (loops-next profile reads first i r here.state within is sound)
      ∙ other_line (first + i) line (fact_made (first + i) r here.state) (loops_made profile (step profile (first + i) r here.state) (first + (i + 1)) (drop (i + 1) reads)) (fact_made-line (first + i) r here.state) apart;
}

pub seeks-here : (profile : Profile) (reads : List Read) (first i : ℕ) (r : Read) (machine : Machine) (line : ℕ) (fact : Option LoopFact) → i < length reads → r ≡ get_or reads i r → first + i ≡ line
    → (here : Seeks profile reads first i machine line)
    → broken profile r here.state ≡ None
    → fact ≡ fact_made (first + i) r here.state
    → fact ≡ fact_of line (loops_made profile empty_state first reads)
seeks-here profile reads first i r machine line fact within is own here sound made =
    let past : line < first + (i + 1) = omega arith in
    let later : List LoopFact = loops_made profile (step profile (first + i) r here.state) (first + (i + 1)) (drop (i + 1) reads) in
    made
    ∙ sym (here.found ∙ ap (fact_of line) (loops-next profile reads first i r here.state within is sound)
    ∙ own_line line (fact_made (first + i) r here.state) later (subst (λ k. IfSome (fact_made (first + i) r here.state) (IsOfLine k)) own (fact_made-line (first + i) r here.state))
    (later_lines profile (step profile (first + i) r here.state) (first + (i + 1)) line (drop (i + 1) reads) past))

pub seeks-stop : (profile : Profile) (reads : List Read) (first i : ℕ) (r : Read) (machine : Machine) (line : ℕ) → i < length reads → r ≡ get_or reads i r
    → (here : Seeks profile reads first i machine line)
    → is_some (broken profile r here.state) ≡ true
    → fact_of line (loops_made profile empty_state first reads) ≡ None
seeks-stop profile reads first i r machine line within is here broke = here.found ∙ ap (fact_of line) (loops-stop profile reads first i r here.state within is broke)

pub seeks-end : (profile : Profile) (reads : List Read) (first i : ℕ) (machine : Machine) (line : ℕ) → length reads ≤ i
    → (here : Seeks profile reads first i machine line)
    → fact_of line (loops_made profile empty_state first reads) ≡ None
seeks-end profile reads first i machine line past here = here.found ∙ ap (fact_of line) (loops-end profile reads first i here.state past)
