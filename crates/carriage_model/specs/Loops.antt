-- The loops that a run makes.
use Rattle.std.specs.Prelude.{ℕ, ◌+◌, List, [], ◌∷◌, ◌++◌, Option, None, Some, Bool, true, false, nat_eq, if◌then◌else◌}
use Rattle.std.specs.Option.{option_to_list}
use Rattle.knit_base.specs.declared.instr.Instr.{Instr}
use Rattle.knit_base.specs.declared.instr.Instr.TheVariants.{Knit, Tuck, Split}
use Rattle.knit_base.specs.declared.instr.Read.{Read}
use Rattle.knit_base.specs.declared.instr.Read.TheVariants as read
use Rattle.knit_base.specs.declared.rule.Reason.{Reason}
use Rattle.knit_base.specs.declared.profile.Profile.{Profile}
use Rattle.knit_base.specs.declared.needle.Needle.{Needle}
use Rattle.knit_base.specs.declared.needle.Dir.{Dir}
use Rattle.knit_base.specs.declared.yarns.CarrierNo.{CarrierNo}
use Rattle.carriage_model.specs.declared.verdict.LoopFact.{LoopFact}
use Rattle.carriage_model.specs.State.{State}
use Rattle.carriage_model.specs.Rules.{broken}
use Rattle.carriage_model.specs.Steps.{step}

-- a loop of these yarns, drawn through these loops. Without yarns there is no loop
abbrev pub loop_formed : ℕ → Dir → Needle → List CarrierNo → List ℕ → Option LoopFact
loop_formed k dir n [] through = None
loop_formed k dir n (c ∷ cs) through = Some (record { line = k; needle = n; dir = dir; yarns = c ∷ cs; through = through })

-- The loop that the instruction of line k makes in this state: `tuck` draws it through nothing, `knit` and `split` through all
-- loops on the needle. Other instructions make none.
abbrev pub loop_of_instr : ℕ → Instr → State → Option LoopFact
loop_of_instr k (Knit dir n cs) s = loop_formed k dir n cs (s.stacks n)
loop_of_instr k (Tuck dir n cs) s = loop_formed k dir n cs []
loop_of_instr k (Split dir n n2 cs) s = loop_formed k dir n cs (s.stacks n)
loop_of_instr k instr s = None

-- the loop that line k makes in this state, if it breaks no rule there
abbrev pub fact_made : ℕ → Read → State → Option LoopFact
fact_made k (read.Instr instr) s = loop_of_instr k instr s
fact_made k r s = None

-- a line makes its loop before those of later lines, and nothing is made from the line on that breaks a rule
abbrev pub made_on : Option Reason → Option LoopFact → List LoopFact → List LoopFact
made_on None fact later = option_to_list fact ++ later
made_on (Some reason) fact later = []

-- the loops that the lines make, of which the first is line k, from this state up to the end or to the first fault
abbrev pub loops_made : Profile → State → ℕ → List Read → List LoopFact
loops_made profile s k [] = []
loops_made profile s k (r ∷ rs) = made_on (broken profile r s) (fact_made k r s) (loops_made profile (step profile k r s) (k + 1) rs)

-- the loop of this line among these
abbrev pub fact_of : ℕ → List LoopFact → Option LoopFact
fact_of line [] = None
fact_of line (fact ∷ facts) = if nat_eq fact.line line then Some fact else fact_of line facts

-- the loops, where they are asked for
abbrev pub loops_asked : Bool → List LoopFact → Option (List LoopFact)
loops_asked false loops = None
loops_asked true loops = Some loops
