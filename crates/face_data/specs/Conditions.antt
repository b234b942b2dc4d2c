-- The conditions of a block on the state at its entry.
use Rattle.std.specs.Prelude.{ℕ, ◌+◌, ℤ, pos, nat_eq, nat_le, int_le, Bool, List, [], ◌∷◌, length, Option, None, Some, slice_range, if◌then◌else◌}
use Rattle.std.specs.List.{sum_by}
use Rattle.std.specs.Ordering.{int_eq}
use Rattle.knit_base.specs.declared.instr.Quarter.{Quarter}
use Rattle.knit_base.specs.declared.needle.Needle.{Needle}
use Rattle.knit_base.specs.declared.rule.Reason.{Reason}
use Rattle.knit_base.specs.declared.yarns.CarrierNo.{CarrierNo}
use Rattle.knit_base.specs.Reasons.{or_else}
use Rattle.knit_base.specs.Yarns.{contains_carrier, lacks_carrier}
use Rattle.carriage_model.specs.State.{State, is_near}
use Rattle.face_data.specs.declared.face.Cond.{Cond}
use Rattle.face_data.specs.declared.face.Cond.TheVariants.{RackIs, CarrierIn, CarrierOut, HookFree, HookIs, HookLacks, SizeAtMost, LastNear}
use Rattle.face_data.specs.declared.face.Part.{Part}
use Rattle.face_data.specs.declared.sizes.SizeAsk.{SizeAsk}

-- a condition with its needles written out
pub data Ask : Type 0 where
  rack_is : ℤ → Ask
  carrier_in : CarrierNo → Ask
  carrier_out : CarrierNo → Ask
  hook_free : Ask
  hook_is : ℕ → Ask
  hook_lacks : CarrierNo → Ask
  size_at_most : List Needle → ℕ → Ask
  last_near : CarrierNo → ℤ → ℕ → Ask

-- a part of a list
abbrev pub part_of : {X : Type 0} → List X → Part → List X
part_of xs p = slice_range xs p.start (p.start + p.len)

-- the condition, whose needles stand in the list of names
abbrev pub ask_of : List Needle → Cond → Ask
ask_of names (RackIs q) = rack_is q.0
ask_of names (CarrierIn c) = carrier_in c
ask_of names (CarrierOut c) = carrier_out c
ask_of names HookFree = hook_free
ask_of names (HookIs set) = hook_is set
ask_of names (HookLacks c) = hook_lacks c
ask_of names (SizeAtMost p most) = size_at_most (part_of names p) most
ask_of names (LastNear c at float) = last_near c at float

-- how many loops the needles hold together
abbrev pub size_of : List Needle → State → ℕ
size_of names s = sum_by (λ n. length (s.stacks n)) names

-- whether the condition holds in the state
abbrev pub holds : Ask → State → Bool
holds (rack_is q) s = int_eq s.rack q
holds (carrier_in c) s = contains_carrier s.ins c
holds (carrier_out c) s = lacks_carrier s.ins c
holds hook_free s = nat_eq s.hook 0
holds (hook_is set) s = nat_eq s.hook set
holds (hook_lacks c) s = lacks_carrier s.hook c
holds (size_at_most names most) s = nat_le (size_of names s) most
holds (last_near c at float) s = is_near float (s.lasts c) at

-- the reason, where what it is given for fails
abbrev pub broken_unless : Bool → Reason → Option Reason
broken_unless met reason = if met then None else Some reason

-- the reason of the first condition that doesn't hold. None of them is on sizes
abbrev pub first_unmet : List (Reason × Cond) → State → Option Reason
first_unmet [] s = None
first_unmet (c ∷ cs) s = or_else (broken_unless (holds (ask_of [] c.1) s) c.0) (first_unmet cs s)

-- the reason, where the rack is another than the one that is asked for. None asks for no rack
abbrev pub unmet_rack : Option (Reason × Quarter) → State → Option Reason
unmet_rack None s = None
unmet_rack (Some c) s = broken_unless (holds (rack_is c.1.0) s) c.0

-- the reason of a condition on sizes, where the needles hold more loops together than it allows
abbrev pub unmet_size : SizeAsk → State → Option Reason
unmet_size ask s = broken_unless (int_le (pos (size_of ask.entries s)) ask.max) ask.reason

-- the reason of the first condition on sizes that isn't met
abbrev pub first_unmet_size : List SizeAsk → State → Option Reason
first_unmet_size [] s = None
first_unmet_size (ask ∷ asks) s = or_else (unmet_size ask s) (first_unmet_size asks s)

-- the same of a condition that may be asked or not
abbrev pub unmet_size_if_any : Option SizeAsk → State → Option Reason
unmet_size_if_any None s = None
unmet_size_if_any (Some ask) s = unmet_size ask s
