-- What a verdict says of a run.
use Rattle.std.specs.Prelude.{◌≡◌, ℕ, ◌<◌, ◌^◌, true, List, [], ◌∷◌, length, if◌then◌else◌, All, map}
use Rattle.std.specs.List.{sum_by}
use Rattle.std.specs.List.Sorted.{IsStrictlySortedBy}
use Rattle.knit_base.specs.declared.needle.Needle.{Needle}
use Rattle.knit_base.specs.declared.yarns.CarrierNo.{CarrierNo}
use Rattle.knit_base.specs.Needle.{same_needle, needle_cmp}
use Rattle.knit_base.specs.Yarns.{contains_carrier}
use Rattle.carriage_model.specs.declared.verdict.LoopFact.{LoopFact}
use Rattle.carriage_model.specs.declared.verdict.Stack.{Stack}
use Rattle.carriage_model.specs.declared.verdict.Final.{Final}
use Rattle.carriage_model.specs.declared.verdict.Brief.{Brief}
use Rattle.carriage_model.specs.declared.verdict.Brief.TheVariants as brief
use Rattle.carriage_model.specs.declared.verdict.Verdict.{Verdict}
use Rattle.carriage_model.specs.declared.verdict.Verdict.TheVariants as verdict
use Rattle.carriage_model.specs.State.{State}
use Rattle.carriage_model.specs.Run.{Ended, Ends, Stops}

-- the loops that the list has on this needle
abbrev pub loops_on : List Stack → Needle → List ℕ
loops_on [] n = []
loops_on (stack ∷ stacks) n = if same_needle n stack.needle then stack.loops else loops_on stacks n

-- the list names each needle that holds loops, in order, with its loops, and no other
pub record AreStacks (list : List Stack) (stacks : Needle → List ℕ) : Type 0 where
  pub in_order : IsStrictlySortedBy needle_cmp (map (λ stack. stack.needle) list)
  pub nonempty : All (λ stack. 0 < length stack.loops) list
  pub loops : (n : Needle) → loops_on list n ≡ stacks n

-- so many lines ended in this state, and made these loops
pub record IsFinal (final : Final) (lines : ℕ) (s : State) (loops : List LoopFact) : Type 0 where
  pub lines_run : final.lines ≡ lines
  pub loops_made : final.made ≡ length loops
  pub rack : final.rack.0 ≡ s.rack
  pub ins : final.ins ≡ s.ins
  pub hook : final.hook ≡ s.hook
  pub stacks : AreStacks final.stacks s.stacks

-- the verdict on a body of so many lines, whose run ended so and made these loops
abbrev pub IsVerdict : ℕ → Verdict → Ended → List LoopFact → Type 0
IsVerdict lines (verdict.Sound final) (Ends s) loops = IsFinal final lines s loops
IsVerdict lines (verdict.Sound final) (Stops s fault) loops = ⊥
IsVerdict lines (verdict.Broken fault) (Ends s) loops = ⊥
IsVerdict lines (verdict.Broken fault) (Stops s stopped) loops = fault ≡ stopped

-- each carrier of the set is one of so many declared ones
abbrev pub HasDeclared : ℕ → ℕ → Type 0
HasDeclared declared set = (c : CarrierNo) → contains_carrier set c ≡ true → c.0 < declared

-- each carrier that the verdict names is one of so many declared ones
abbrev pub NamesDeclared : ℕ → Verdict → Type 0
NamesDeclared declared (verdict.Sound final) = HasDeclared declared final.ins × HasDeclared declared final.hook
NamesDeclared declared (verdict.Broken fault) = Unit {0}

-- each yarn of the loop is one of so many declared carriers
abbrev pub IsOfDeclared : ℕ → LoopFact → Type 0
IsOfDeclared declared fact = All (λ c. c.0 < declared) fact.yarns

-- each yarn of each loop is one of so many declared carriers
abbrev pub AreOfDeclared : ℕ → List LoopFact → Type 0
AreOfDeclared declared = All (IsOfDeclared declared)

-- how many loops the needles of the list hold together
abbrev pub held_on : List Stack → ℕ
held_on = sum_by (λ stack. length stack.loops)

-- the loops that the verdict's needles hold can be counted in 32 bits
abbrev pub HoldsFew : Verdict → Type 0
HoldsFew (verdict.Sound final) = held_on final.stacks < 2 ^ 32
HoldsFew (verdict.Broken fault) = Unit {0}

-- a verdict in short: of a sound one the lines, the loops made, the loops held and the rack, and else the fault
abbrev pub brief_of : Verdict → Brief
brief_of (verdict.Sound final) = brief.Sound final.lines final.made (held_on final.stacks) final.rack
brief_of (verdict.Broken fault) = brief.Broken fault
