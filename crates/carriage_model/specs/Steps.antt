-- What a line that breaks no rule does to the machine. All of it is from the knitout specification, but that `tuck` without
-- carriers does nothing, and the last needles, which are this project's own.
use Rattle.std.specs.Prelude.{ℕ, ℤ, List, [], ◌∷◌, ◌++◌, Option, None, Some}
use Rattle.knit_base.specs.declared.instr.Instr.{Instr}
use Rattle.knit_base.specs.declared.instr.Instr.TheVariants.{CarryIn, CarryOut, HookIn, HookOut, ReleaseHook, Stitch, Pause, Extension, Rack, Knit, Tuck, Miss, Split, Xfer, Drop, Amiss}
use Rattle.knit_base.specs.declared.instr.Read.{Read}
use Rattle.knit_base.specs.declared.instr.Read.TheVariants as read
use Rattle.knit_base.specs.declared.needle.Needle.{Needle}
use Rattle.knit_base.specs.declared.profile.Profile.{Profile}
use Rattle.knit_base.specs.declared.yarns.CarrierNo.{CarrierNo}
use Rattle.knit_base.specs.Yarns.{mask_of, with_carriers, without_carriers}
use Rattle.carriage_model.specs.State.{State, with_lasts, with_stack, stacks_transferred}

-- the new loop alone is on the needle, drawn through the old ones. Without carriers the needle is left empty
abbrev pub step_knit : ℕ → Needle → List CarrierNo → State → State
step_knit k n [] s = record s { stacks = with_stack s.stacks n [] }
step_knit k n (c ∷ cs) s = record s { stacks = with_stack s.stacks n (k ∷ []) }

-- the new loop joins those on the needle. Without carriers nothing happens
abbrev pub step_tuck : ℕ → Needle → List CarrierNo → State → State
step_tuck k n [] s = s
step_tuck k n (c ∷ cs) s = record s { stacks = with_stack s.stacks n (s.stacks n ++ k ∷ []) }

-- the old loops go over to the second needle, and the new loop, drawn through them, stays. Without carriers they only go over
abbrev pub step_split : ℕ → Needle → Needle → List CarrierNo → State → State
step_split k n n2 [] s = record s { stacks = stacks_transferred n n2 [] s.stacks }
step_split k n n2 (c ∷ cs) s = record s { stacks = stacks_transferred n n2 (k ∷ []) s.stacks }

-- the instruction of line k is carried out, but for the last needles
abbrev pub step_instr : ℕ → Instr → State → State
step_instr k (CarryIn cs) s = record s { ins = with_carriers s.ins cs }
step_instr k (CarryOut cs) s = record s { ins = without_carriers s.ins cs }
step_instr k (HookIn cs) s = record s { ins = with_carriers s.ins cs; hook = mask_of cs }
step_instr k (HookOut cs) s = record s { ins = without_carriers s.ins cs }
step_instr k (ReleaseHook cs) s = record s { hook = 0 }
step_instr k Stitch s = s
step_instr k Pause s = s
step_instr k Extension s = s
step_instr k (Rack q) s = record s { rack = q.0 }
step_instr k (Knit dir n cs) s = step_knit k n cs s
step_instr k (Tuck dir n cs) s = step_tuck k n cs s
step_instr k (Miss dir n cs) s = s
step_instr k (Split dir n n2 cs) s = step_split k n n2 cs s
step_instr k (Xfer n n2) s = record s { stacks = stacks_transferred n n2 [] s.stacks }
step_instr k (Drop n) s = record s { stacks = with_stack s.stacks n [] }
step_instr k (Amiss n) s = s

-- the last needles that the instruction gives carriers: those that come in or go out have none, and those of a new loop its needle
abbrev pub given_lasts : Instr → (CarrierNo → Option ℤ) → CarrierNo → Option ℤ
given_lasts (CarryIn cs) lasts = with_lasts lasts cs None
given_lasts (CarryOut cs) lasts = with_lasts lasts cs None
given_lasts (HookIn cs) lasts = with_lasts lasts cs None
given_lasts (HookOut cs) lasts = with_lasts lasts cs None
given_lasts (Knit dir n cs) lasts = with_lasts lasts cs (Some n.at)
given_lasts (Tuck dir n cs) lasts = with_lasts lasts cs (Some n.at)
given_lasts (Split dir n n2 cs) lasts = with_lasts lasts cs (Some n.at)
given_lasts instr lasts = lasts

-- the last needles after the instruction; where floats have no limit nobody asks for them, and they aren't kept
abbrev pub kept_lasts : Option ℕ → Instr → (CarrierNo → Option ℤ) → CarrierNo → Option ℤ
kept_lasts None instr lasts = lasts
kept_lasts (Some float) instr lasts = given_lasts instr lasts

-- line k is carried out on a machine with these limits
abbrev pub step : Profile → ℕ → Read → State → State
step profile k read.Blank s = s
step profile k read.Comment s = s
step profile k (read.Broken reason) s = s
step profile k (read.Instr i) s = record (step_instr k i s) { lasts = kept_lasts profile.float i s.lasts }
