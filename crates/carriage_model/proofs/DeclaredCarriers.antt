-- A run names declared carriers only.
use Rattle.std.proofs.Common.{◌≡◌, ℕ, ◌+◌, ◌<◌, ◌^◌, List, [], ◌∷◌, All, bit_and, Option, None, Some, IfSome, Bool, true, false, cond, nat_eq, sym, subst, arith, inl, inr}
use Rattle.std.specs.Int.{bit_at}
use Rattle.std.specs.Option.{option_to_list}
use Rattle.std.proofs.lemmas.Bool.{eqb-true, cases_lt}
use Rattle.std.proofs.lemmas.Nat.{or_lt, xor_lt, and_le_l, pow_pos}
use Rattle.std.proofs.lemmas.Nat.Bits.{bit_at_above}
use Rattle.std.proofs.lemmas.List.Elements.{All-nil, All-cons, All-head, All-tail, All-append}
use Rattle.knit_base.proofs.Masks.{mask_of-below}
use Rattle.knit_base.specs.Lawful.{IsLawfulInstr, IsLawfulRead}
use Rattle.knit_base.specs.Yarns.{mask_of, with_carriers, without_carriers}
use Rattle.knit_base.specs.declared.instr.Instr.TheVariants.{CarryIn, CarryOut, HookIn, HookOut, ReleaseHook, Rack, Knit, Tuck, Split, Xfer, Drop}
use Rattle.knit_base.specs.declared.instr.Instr.{Instr}
use Rattle.knit_base.specs.declared.instr.Read.{Read}
use Rattle.knit_base.specs.declared.instr.Read.TheVariants as read
use Rattle.knit_base.specs.declared.rule.Reason.{Reason}
use Rattle.knit_base.specs.declared.profile.Profile.{Profile}
use Rattle.knit_base.specs.declared.needle.Needle.{Needle}
use Rattle.knit_base.specs.declared.needle.Dir.{Dir}
use Rattle.knit_base.specs.declared.yarns.CarrierNo.{CarrierNo}
use Rattle.carriage_model.specs.declared.verdict.LoopFact.{LoopFact}
use Rattle.carriage_model.specs.declared.verdict.Verdict.{Verdict}
use Rattle.carriage_model.specs.declared.verdict.Verdict.TheVariants as verdict
use Rattle.carriage_model.specs.State.{State, empty_state}
use Rattle.carriage_model.specs.Rules.{broken}
use Rattle.carriage_model.specs.Steps.{step, step_instr}
use Rattle.carriage_model.specs.Run.{run, run_on, Ended, Ends, Stops}
use Rattle.carriage_model.specs.Loops.{loops_made, made_on, fact_made, loop_of_instr, loop_formed, fact_of}
use Rattle.carriage_model.specs.Verdict.{IsVerdict, HasDeclared, NamesDeclared, AreOfDeclared, IsOfDeclared}

with-below : (d set : ℕ) (cs : List CarrierNo) → set < 2 ^ d → All (λ c. c.0 < d) cs → with_carriers set cs < 2 ^ d
with-below d set cs below all = or_lt d set (mask_of cs) below (mask_of-below d cs all)

without-below : (d set : ℕ) (cs : List CarrierNo) → set < 2 ^ d → without_carriers set cs < 2 ^ d
without-below d set cs below = xor_lt d set (bit_and set (mask_of cs)) below (omega (arith, and_le_l set (mask_of cs)))

-- both sets of the state are of declared carriers
record Below (d : ℕ) (s : State) : Type 0 where
  ins : s.ins < 2 ^ d
  hook : s.hook < 2 ^ d

step_instr-below : (profile : Profile) (d k : ℕ) (i : Instr) (s : State) → IsLawfulInstr profile d i → Below d s → Below d (step_instr k i s)
step_instr-below profile d k (CarryIn cs) s lawful below = record { ins = with-below d s.ins cs below.ins lawful.carriers.each; hook = below.hook }
step_instr-below profile d k (CarryOut cs) s lawful below = record { ins = without-below d s.ins cs below.ins; hook = below.hook }
step_instr-below profile d k (HookIn cs) s lawful below = record { ins = with-below d s.ins cs below.ins lawful.carriers.each; hook = mask_of-below d cs lawful.carriers.each }
step_instr-below profile d k (HookOut cs) s lawful below = record { ins = without-below d s.ins cs below.ins; hook = below.hook }
step_instr-below profile d k (ReleaseHook cs) s lawful below = record { ins = below.ins; hook = pow_pos d }
step_instr-below profile d k (Rack q) s lawful below = record { ins = below.ins; hook = below.hook }
step_instr-below profile d k (Knit dir n []) s lawful below = record { ins = below.ins; hook = below.hook }
step_instr-below profile d k (Knit dir n (c ∷ cs)) s lawful below = record { ins = below.ins; hook = below.hook }
step_instr-below profile d k (Tuck dir n []) s lawful below = below
step_instr-below profile d k (Tuck dir n (c ∷ cs)) s lawful below = record { ins = below.ins; hook = below.hook }
step_instr-below profile d k (Split dir n n2 []) s lawful below = record { ins = below.ins; hook = below.hook }
step_instr-below profile d k (Split dir n n2 (c ∷ cs)) s lawful below = record { ins = below.ins; hook = below.hook }
step_instr-below profile d k (Xfer n n2) s lawful below = record { ins = below.ins; hook = below.hook }
step_instr-below profile d k (Drop n) s lawful below = record { ins = below.ins; hook = below.hook }
step_instr-below profile d k i s lawful below = below

step-below : (profile : Profile) (d k : ℕ) (r : Read) (s : State) → IsLawfulRead profile d r → Below d s → Below d (step profile k r s)
step-below profile d k (read.Instr i) s lawful below = let after = step_instr-below profile d k i s lawful below in record { ins = after.ins; hook = after.hook }
step-below profile d k r s lawful below = below

abbrev EndsBelow : ℕ → Ended → Type 0
EndsBelow d (Ends s) = Below d s
EndsBelow d (Stops s fault) = Unit {0}

run_on-below : (d k : ℕ) (b : Option Reason) (s : State) (rest : Ended) → EndsBelow d rest → EndsBelow d (run_on k b s rest)
run_on-below d k None s rest below = below
run_on-below d k (Some reason) s rest below = tt

run-below : (profile : Profile) (d : ℕ) (s : State) (k : ℕ) (rs : List Read) → All (IsLawfulRead profile d) rs → Below d s → EndsBelow d (run profile s k rs)
run-below profile d s k [] lawful below = below
run-below profile d s k (r ∷ rs) lawful below =
    run_on-below d k (broken profile r s) s (run profile (step profile k r s) (k + 1) rs)
    (run-below profile d (step profile k r s) (k + 1) rs (All-tail (IsLawfulRead profile d) r rs lawful) (step-below profile d k r s (All-head (IsLawfulRead profile d) r rs lawful) below))

declared_from-below : (d set : ℕ) → set < 2 ^ d → HasDeclared d set
declared_from-below d set below c has =
    elim (cases_lt c.0 d) [ inl lt ↦ lt | inr ge ↦ absurd (omega (arith, eqb-true (bit_at set c.0) 1 has, bit_at_above set d c.0 below ge)) ]

verdict-declared : (d lines : ℕ) (v : Verdict) (ended : Ended) (loops : List LoopFact) → IsVerdict lines v ended loops → EndsBelow d ended → NamesDeclared d v
verdict-declared d lines (verdict.Sound final) (Ends s) loops is below =
    (declared_from-below d final.ins (subst (λ set. set < 2 ^ d) (sym is.ins) below.ins), declared_from-below d final.hook (subst (λ set. set < 2 ^ d) (sym is.hook) below.hook))
verdict-declared d lines (verdict.Sound final) (Stops s fault) loops is below = absurd is
verdict-declared d lines (verdict.Broken fault) ended loops is below = tt

-- the verdict on lawful readings names declared carriers only
pub names-declared : (profile : Profile) (d first lines : ℕ) (rs : List Read) (v : Verdict) → All (IsLawfulRead profile d) rs
    → IsVerdict lines v (run profile empty_state first rs) (loops_made profile empty_state first rs) → NamesDeclared d v
names-declared profile d first lines rs v lawful is =
    verdict-declared d lines v (run profile empty_state first rs) (loops_made profile empty_state first rs) is
    (run-below profile d empty_state first rs lawful (record { ins = pow_pos d; hook = pow_pos d }))

formed-declared : (d k : ℕ) (dir : Dir) (n : Needle) (cs : List CarrierNo) (through : List ℕ) → All (λ c. c.0 < d) cs → AreOfDeclared d (option_to_list (loop_formed k dir n cs through))
formed-declared d k dir n [] through all = All-nil (IsOfDeclared d)
formed-declared d k dir n (c ∷ cs) through all =
    All-cons (IsOfDeclared d) (record { line = k; needle = n; dir = dir; yarns = c ∷ cs; through = through }) [] all (All-nil (IsOfDeclared d))

loop_of_instr-declared : (profile : Profile) (d k : ℕ) (i : Instr) (s : State) → IsLawfulInstr profile d i → AreOfDeclared d (option_to_list (loop_of_instr k i s))
loop_of_instr-declared profile d k (Knit dir n cs) s lawful = formed-declared d k dir n cs (s.stacks n) lawful.carriers.each
loop_of_instr-declared profile d k (Tuck dir n cs) s lawful = formed-declared d k dir n cs [] lawful.carriers.each
loop_of_instr-declared profile d k (Split dir n n2 cs) s lawful = formed-declared d k dir n cs (s.stacks n) lawful.carriers.each
loop_of_instr-declared profile d k i s lawful = All-nil (IsOfDeclared d)

fact_made-declared : (profile : Profile) (d k : ℕ) (r : Read) (s : State) → IsLawfulRead profile d r → AreOfDeclared d (option_to_list (fact_made k r s))
fact_made-declared profile d k (read.Instr i) s lawful = loop_of_instr-declared profile d k i s lawful
fact_made-declared profile d k r s lawful = All-nil (IsOfDeclared d)

made_on-declared : (d : ℕ) (b : Option Reason) (fact : Option LoopFact) (later : List LoopFact) → AreOfDeclared d (option_to_list fact) → AreOfDeclared d later → AreOfDeclared d (made_on b fact later)
made_on-declared d None fact later here there = All-append (IsOfDeclared d) (option_to_list fact) later here there
made_on-declared d (Some reason) fact later here there = All-nil (IsOfDeclared d)

-- the loops of lawful readings are of declared carriers only
pub loops_made-declared : (profile : Profile) (d : ℕ) (s : State) (k : ℕ) (rs : List Read) → All (IsLawfulRead profile d) rs → AreOfDeclared d (loops_made profile s k rs)
loops_made-declared profile d s k [] lawful = All-nil (IsOfDeclared d)
loops_made-declared profile d s k (r ∷ rs) lawful =
    made_on-declared d (broken profile r s) (fact_made k r s) (loops_made profile (step profile k r s) (k + 1) rs)
    (fact_made-declared profile d k r s (All-head (IsLawfulRead profile d) r rs lawful)) (loops_made-declared profile d (step profile k r s) (k + 1) rs (All-tail (IsLawfulRead profile d) r rs lawful))

chosen-declared : (d : ℕ) (b : Bool) (fact : LoopFact) (rest : Option LoopFact) → IsOfDeclared d fact → IfSome rest (IsOfDeclared d) → IfSome (cond b (Some fact) rest) (IsOfDeclared d)
chosen-declared d true fact rest here there = here
chosen-declared d false fact rest here there = there

-- a loop that is found among loops of declared carriers is one of them
fact_of-declared : (d line : ℕ) (facts : List LoopFact) → AreOfDeclared d facts → IfSome (fact_of line facts) (IsOfDeclared d)
fact_of-declared d line [] all = tt
fact_of-declared d line (fact ∷ facts) all =
    chosen-declared d (nat_eq fact.line line) fact (fact_of line facts) (All-head (IsOfDeclared d) fact facts all) (fact_of-declared d line facts (All-tail (IsOfDeclared d) fact facts all))

-- the loops of lawful readings that are found by their line
pub found-declared : (profile : Profile) (d first line : ℕ) (rs : List Read) (fact : Option LoopFact) → All (IsLawfulRead profile d) rs
    → fact ≡ fact_of line (loops_made profile empty_state first rs) → IfSome fact (IsOfDeclared d)
found-declared profile d first line rs fact lawful is =
    subst (λ o. IfSome o (IsOfDeclared d)) (sym is) (fact_of-declared d line (loops_made profile empty_state first rs) (loops_made-declared profile d empty_state first rs lawful))
