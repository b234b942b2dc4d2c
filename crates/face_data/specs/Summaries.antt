-- What a block does to the state at its entry.
use Rattle.std.specs.Prelude.{◌≡◌, ℕ, ◌+◌, ℤ, List, [], ◌∷◌, Option, None, Some, unwrap_or, bit_or, if◌then◌else◌}
use Rattle.knit_base.specs.declared.instr.Instr.{Instr}
use Rattle.knit_base.specs.declared.instr.Quarter.{Quarter}
use Rattle.knit_base.specs.declared.rule.Fault.{Fault}
use Rattle.knit_base.specs.Yarns.{without_set}
use Rattle.carriage_model.specs.State.{State}
use Rattle.carriage_model.specs.Steps.{step_instr}
use Rattle.face_data.specs.declared.face.Effect.{Effect}
use Rattle.face_data.specs.declared.face.Ending.{Ending}
use Rattle.face_data.specs.declared.face.Ending.TheVariants.{Through, Broken}
use Rattle.face_data.specs.Conditions.{Ask, holds}
use Rattle.face_data.specs.declared.face.Last.{Last}
use Rattle.face_data.specs.Lasts.{lasts_after}
use Rattle.face_data.specs.Segments.{Changed, segments_on, read_segs}

-- a condition, and the fault where it doesn't hold
pub record AskedCondition : Type 0 where
  pub fault : Fault
  pub ask : Ask

-- a block's summary, with the needles and segments of its parts written out
pub record Summary : Type 0 where
  pub lines : ℕ
  pub made : ℕ
  pub checks : List AskedCondition
  pub changes : List Changed
  pub lasts : List Last
  pub ending : Ending

-- the fault of the first condition that doesn't hold
abbrev pub first_fault : List AskedCondition → State → Option Fault
first_fault [] s = None
first_fault (c ∷ cs) s = if holds c.ask s then first_fault cs s else Some c.fault

-- the new rack, or the old one
abbrev pub rack_after_effect : Option Quarter → ℤ → ℤ
rack_after_effect None old = old
rack_after_effect (Some q) old = q.0

-- the carriers in action after some went and some came
abbrev pub ins_after : Effect → ℕ → ℕ
ins_after effect old = bit_or (without_set old effect.went) effect.came

-- what the hook holds, where the block changes it or not
abbrev pub hook_after : Effect → ℕ → ℕ
hook_after effect old = unwrap_or effect.hook old

-- the effect is what the instruction does to rack, carriers and hook
pub record IsEffectOf (instr : Instr) (effect : Effect) : Type 0 where
  pub rack : (k : ℕ) (s : State) → rack_after_effect effect.rack s.rack ≡ (step_instr k instr s).rack
  pub ins : (k : ℕ) (s : State) → ins_after effect s.ins ≡ (step_instr k instr s).ins
  pub hook : (k : ℕ) (s : State) → hook_after effect s.hook ≡ (step_instr k instr s).hook

-- the state that the effect, the last needles and the changes make
abbrev pub state_after_changes : Effect → List Last → List Changed → State → ℕ → State
state_after_changes effect lasts changes s first = record {
  rack = rack_after_effect effect.rack s.rack;
  ins = ins_after effect s.ins;
  hook = hook_after effect s.hook;
  lasts = lasts_after lasts s.lasts;
  stacks = λ n. read_segs s first (segments_on changes n);
}

-- the fault, its line raised
abbrev pub fault_raised : ℕ → Fault → Fault
fault_raised by fault = record fault { line = by + fault.line }

-- how a block ends
pub data Outcome : Type 0 where
  went_on : State → Outcome
  faulted : Fault → Outcome

-- how a block ends whose first condition that fails has this fault
abbrev pub outcome_of : Option Fault → Ending → List Last → List Changed → State → ℕ → Outcome
outcome_of (Some fault) ending lasts changes s first = faulted (fault_raised first fault)
outcome_of None (Broken fault) lasts changes s first = faulted (fault_raised first fault)
outcome_of None (Through effect) lasts changes s first = went_on (state_after_changes effect lasts changes s first)

-- how the block ends that is entered in state s at line `first`
abbrev pub summary_outcome : Summary → State → ℕ → Outcome
summary_outcome summary s first = outcome_of (first_fault summary.checks s) summary.ending summary.lasts summary.changes s first
