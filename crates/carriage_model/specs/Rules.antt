-- Which rule a line breaks, where the machine stands so. Of several broken rules the first in the order of `Rule` counts.
use Rattle.std.specs.Prelude.{ℕ, ℤ, ◌+◌, not, nat_lt, nat_eq, List, [], ◌∷◌, length, Option, None, Some}
use Rattle.std.specs.Ordering.{int_eq}
use Rattle.knit_base.specs.declared.instr.Instr.{Instr}
use Rattle.knit_base.specs.declared.instr.Instr.TheVariants.{CarryIn, CarryOut, HookIn, HookOut, ReleaseHook, Stitch, Pause, Extension, Rack, Knit, Tuck, Miss, Split, Xfer, Drop, Amiss}
use Rattle.knit_base.specs.declared.instr.Read.{Read}
use Rattle.knit_base.specs.declared.instr.Read.TheVariants as read
use Rattle.knit_base.specs.declared.rule.Rule.TheVariants.{CarrierIsOut, CarrierIsIn, HookBusy, HookOther, CarrierHooked, NotAligned, SliderHolds, TooManyLoops, FloatTooLong}
use Rattle.knit_base.specs.declared.rule.Reason.{Reason}
use Rattle.knit_base.specs.declared.profile.Profile.{Profile}
use Rattle.knit_base.specs.declared.needle.Needle.{Needle}
use Rattle.knit_base.specs.declared.usual.Usual.{Usual}
use Rattle.knit_base.specs.declared.usual.Usual.TheVariants as usual
use Rattle.knit_base.specs.declared.yarns.CarrierNo.{CarrierNo}
use Rattle.knit_base.specs.Instr.{forming_needle}
use Rattle.knit_base.specs.Needle.{own_slider, rack_facing}
use Rattle.knit_base.specs.Reasons.{broken_if, first_broken, or_else}
use Rattle.knit_base.specs.Yarns.{mask_of, contains_carrier, lacks_carrier}
use Rattle.carriage_model.specs.State.{State, is_near}

-- A carrier that is to knit, to miss or to go out is in action. From the knitout specification.
abbrev pub carriers_out : State → ℕ → List CarrierNo → Option Reason
carriers_out s at cs = first_broken (lacks_carrier s.ins) CarrierIsOut at cs

-- A carrier that is brought in isn't in action yet. From the knitout specification.
abbrev pub carriers_already_in : State → ℕ → List CarrierNo → Option Reason
carriers_already_in s at cs = first_broken (contains_carrier s.ins) CarrierIsIn at cs

-- The yarn hook is free where a carrier comes in or goes out by it. This project's own rule.
abbrev pub hook_busy : State → Option Reason
hook_busy s = broken_if (nat_lt 0 s.hook) HookBusy 0

-- The hook releases exactly the yarns that it holds. This project's own rule.
abbrev pub hook_other : State → List CarrierNo → Option Reason
hook_other s cs = broken_if (not (nat_eq s.hook (mask_of cs))) HookOther 0

-- No carrier goes out while the hook holds its yarn. This project's own rule.
abbrev pub carriers_hooked : State → ℕ → List CarrierNo → Option Reason
carriers_hooked s at cs = first_broken (contains_carrier s.hook) CarrierHooked at cs

-- Loops go over to the needle that faces theirs. From the knitout specification.
abbrev pub not_aligned : State → Needle → Needle → ℕ → Option Reason
not_aligned s n n2 at = broken_if (not (int_eq s.rack (rack_facing n n2))) NotAligned at

-- No loop is formed on a hook whose own slider holds a loop. This project's own rule.
abbrev pub slider_holds : State → Needle → Option Reason
slider_holds s n = broken_if (nat_lt 0 (length (s.stacks (own_slider n)))) SliderHolds 2

-- A needle holds at most as many loops as the profile says. This project's own rule.
abbrev pub too_many : Profile → ℕ → ℕ → Option Reason
too_many profile loops at = broken_if (nat_lt profile.hold loops) TooManyLoops at

-- The first rule on carriers and the hook that the instruction breaks. Where `knit`, `tuck`, `miss` and `split` have no
-- carriers, they ask for none.
abbrev pub carrier_broken : Instr → State → Option Reason
carrier_broken (CarryIn cs) s = carriers_already_in s 1 cs
carrier_broken (CarryOut cs) s = or_else (carriers_out s 1 cs) (carriers_hooked s 1 cs)
carrier_broken (HookIn cs) s = or_else (carriers_already_in s 1 cs) (hook_busy s)
carrier_broken (HookOut cs) s = or_else (carriers_out s 1 cs) (hook_busy s)
carrier_broken (ReleaseHook cs) s = hook_other s cs
carrier_broken Stitch s = None
carrier_broken Pause s = None
carrier_broken Extension s = None
carrier_broken (Rack q) s = None
carrier_broken (Knit dir n cs) s = carriers_out s 3 cs
carrier_broken (Tuck dir n cs) s = carriers_out s 3 cs
carrier_broken (Miss dir n cs) s = carriers_out s 3 cs
carrier_broken (Split dir n n2 cs) s = carriers_out s 4 cs
carrier_broken (Xfer n n2) s = None
carrier_broken (Drop n) s = None
carrier_broken (Amiss n) s = None

-- whether the instruction moves loops to a needle that doesn't face theirs
abbrev pub rack_broken : Instr → State → Option Reason
rack_broken (Split dir n n2 cs) s = not_aligned s n n2 3
rack_broken (Xfer n n2) s = not_aligned s n n2 2
rack_broken instr s = None

-- whether the own slider of the needle, if there is one, holds a loop
abbrev pub slider_broken_on : Option Needle → State → Option Reason
slider_broken_on None s = None
slider_broken_on (Some n) s = slider_holds s n

-- whether the instruction forms a loop on a hook whose own slider holds one
abbrev pub slider_broken : Instr → State → Option Reason
slider_broken instr s = slider_broken_on (forming_needle instr) s

-- whether a loop more, where there are carriers to form it of, is too many for the needle
abbrev pub tuck_too_many : Profile → Needle → List CarrierNo → State → Option Reason
tuck_too_many profile n [] s = None
tuck_too_many profile n (c ∷ cs) s = too_many profile (length (s.stacks n) + 1) 2

-- whether the instruction puts too many loops on a needle
abbrev pub size_broken : Profile → Instr → State → Option Reason
size_broken profile (Tuck dir n cs) s = tuck_too_many profile n cs s
size_broken profile (Split dir n n2 cs) s = too_many profile (length (s.stacks n2) + length (s.stacks n)) 3
size_broken profile (Xfer n n2) s = too_many profile (length (s.stacks n2) + length (s.stacks n)) 2
size_broken profile instr s = None

-- Two loops that a carrier forms one after the other lie at most so many needle numbers apart, where there is a limit. This
-- project's own rule.
abbrev pub floats_far : Option ℕ → State → ℤ → ℕ → List CarrierNo → Option Reason
floats_far None s number at cs = None
floats_far (Some float) s number at cs = first_broken (λ c. not (is_near float (s.lasts c) number)) FloatTooLong at cs

-- the carrier whose float to the loop that the instruction forms is too long
abbrev pub float_broken : Profile → Instr → State → Option Reason
float_broken profile (Knit dir n cs) s = floats_far profile.float s n.at 3 cs
float_broken profile (Tuck dir n cs) s = floats_far profile.float s n.at 3 cs
float_broken profile (Split dir n n2 cs) s = floats_far profile.float s n.at 4 cs
float_broken profile instr s = None

-- The first rule that the instruction breaks: first those on carriers and the hook, then on the rack, on the slider, on sizes,
-- and on floats.
abbrev pub broken_instr : Profile → Instr → State → Option Reason
broken_instr profile instr s =
    or_else (carrier_broken instr s) (or_else (rack_broken instr s)
    (or_else (slider_broken instr s) (or_else (size_broken profile instr s) (float_broken profile instr s))))

-- the rule that the line breaks: the one that it breaks by itself, or else the one that its instruction breaks here
abbrev pub broken : Profile → Read → State → Option Reason
broken profile (read.Broken reason) s = Some reason
broken profile (read.Instr instr) s = broken_instr profile instr s
broken profile r s = None

-- the rule on floats, asked of a line that most lines are like
abbrev pub floats_asked : Profile → Usual → State → Option Reason
floats_asked profile (usual.Knit dir n c) s = floats_far profile.float s n.at 3 (c ∷ [])
floats_asked profile (usual.Tuck dir n c) s = floats_far profile.float s n.at 3 (c ∷ [])
floats_asked profile (usual.Xfer n n2) s = None
