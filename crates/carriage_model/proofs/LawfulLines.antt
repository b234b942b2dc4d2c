-- What a lawful line that breaks no rule needs is there.
use Rattle.std.proofs.Common.{◌≡◌, ℕ, ◌+◌, ◌<◌, ◌≤◌, Bool, true, false, nat_lt, List, [], ◌∷◌, length, Option, None, Some, is_some, All, get_or, subst, sym, ap, refl, ◌∙◌, pos, ◌+ℤ◌, arith}
use Rattle.std.proofs.lemmas.List.Elements.{All-get_or, All-same}
use Rattle.std.proofs.lemmas.Bool.{true≢false, ltb-false}
use Rattle.std.proofs.lemmas.Int.{ints}
use Rattle.knit_base.specs.Lawful.{IsLawfulInstr, IsLawfulRead, IsOnBed, AreOnBed}
use Rattle.knit_base.specs.Instr.{needles_of, formed_on, forming_needle}
use Rattle.knit_base.specs.Limits.{IsLawfulProfile}
use Rattle.knit_base.specs.Usual.{usual_read}
use Rattle.knit_base.specs.Reasons.{broken_if, or_else}
use Rattle.knit_base.specs.declared.instr.Instr.TheVariants.{Knit, Tuck, Split, Xfer}
use Rattle.knit_base.specs.declared.instr.Instr.{Instr}
use Rattle.knit_base.specs.declared.instr.Read.{Read}
use Rattle.knit_base.specs.declared.instr.Read.TheVariants as read
use Rattle.knit_base.specs.declared.rule.Rule.{Rule}
use Rattle.knit_base.specs.declared.rule.Reason.{Reason}
use Rattle.knit_base.specs.declared.profile.Profile.{Profile}
use Rattle.knit_base.specs.declared.needle.Needle.{Needle}
use Rattle.knit_base.specs.declared.usual.Usual.{Usual}
use Rattle.knit_base.specs.declared.usual.Usual.TheVariants as usual
use Rattle.knit_base.specs.declared.yarns.CarrierNo.{CarrierNo}
use Rattle.carriage_model.specs.declared.beds.Beds.{Beds}
use Rattle.carriage_model.specs.declared.machine.Machine.{Machine}
use Rattle.carriage_model.specs.State.{State}
use Rattle.carriage_model.specs.Rules.{broken, broken_instr, carrier_broken, rack_broken, slider_broken, size_broken, float_broken, too_many}
use Rattle.carriage_model.specs.Beds.{IsOn, AreOn}
use Rattle.carriage_model.specs.Machine.{Represents, HasNeedlesOf, IsSameKind, HasNeedlesInLine, HasPlacesInLine, HasLoopRoom, HasRoomInLine, HasCarrierInSet}

-- the places of a lawful line's carriers fit in 16 bits
pub line_has-places : (profile : Profile) (d : ℕ) (r : Read) → IsLawfulRead profile d r → HasPlacesInLine r
line_has-places profile d (read.Instr instr) lawful = lawful.carriers.places
line_has-places profile d r lawful = tt

-- a needle on the profile's beds is one of the machine's
on_bed-is_on : (profile : Profile) (n : Needle) (machine : Machine) → HasNeedlesOf profile machine → IsOnBed profile n → IsOn machine.beds n.at
on_bed-is_on profile n machine has on = record {
  above = omega (arith, ints, has.low, on.above);
  below = omega (arith, ints, has.low, has.width, on.below);
}

on_bed-are_on : (profile : Profile) (ns : List Needle) (machine : Machine) → HasNeedlesOf profile machine → AreOnBed profile ns → AreOn machine.beds ns
on_bed-are_on profile [] machine has on = tt
on_bed-are_on profile (n ∷ ns) machine has on = (on_bed-is_on profile n machine has on.0, on_bed-are_on profile ns machine has on.1)

-- a lawful line's needles are the machine's
pub line_has-needles : (profile : Profile) (d : ℕ) (r : Read) (machine : Machine) → HasNeedlesOf profile machine → IsLawfulRead profile d r → HasNeedlesInLine machine r
line_has-needles profile d (read.Instr instr) machine has lawful = on_bed-are_on profile (needles_of instr) machine has lawful.needles
line_has-needles profile d r machine has lawful = tt

-- the beds have the needle, if there is one
abbrev pub IsOnIfAny : Beds → Option Needle → Type 0
IsOnIfAny beds None = Unit {0}
IsOnIfAny beds (Some n) = IsOn beds n.at

formed_on-is_on : (beds : Beds) (n : Needle) (cs : List CarrierNo) → IsOn beds n.at → IsOnIfAny beds (formed_on n cs)
formed_on-is_on beds n [] on = tt
formed_on-is_on beds n (c ∷ cs) on = on

-- the needle on which an instruction forms a loop is one that it names
pub forming_needle-is_on : (beds : Beds) (instr : Instr) → AreOn beds (needles_of instr) → IsOnIfAny beds (forming_needle instr)
forming_needle-is_on beds (Knit dir n cs) on = formed_on-is_on beds n cs on.0
forming_needle-is_on beds (Tuck dir n cs) on = formed_on-is_on beds n cs on.0
forming_needle-is_on beds (Split dir n n2 cs) on = formed_on-is_on beds n cs on.0
forming_needle-is_on beds instr on = tt

-- a step leaves the machine its needles
pub needles-kept : (profile : Profile) (old new : Machine) → HasNeedlesOf profile old → IsSameKind old new → HasNeedlesOf profile new
needles-kept profile old new has same = record {
  low = same.beds.low ∙ has.low;
  width = ap (λ w. profile.low +ℤ pos w) same.beds.width ∙ has.width;
  floats = same.floats ∙ has.floats;
}

-- a reading of the list is lawful
pub lawful-item : (profile : Profile) (d : ℕ) (items reads : List Read) (i : ℕ) (r : Read) → items ≡ reads → All (IsLawfulRead profile d) reads → i < length items → r ≡ get_or items i r
    → IsLawfulRead profile d r
lawful-item profile d items reads i r same lawful within is =
    subst (IsLawfulRead profile d) (sym is) (All-get_or (IsLawfulRead profile d) items i r within (All-same (IsLawfulRead profile d) items reads same lawful))

-- an option that isn't some is none
pub none_from_test : {A : Type 0} (o : Option A) → is_some o ≡ false → o ≡ None
none_from_test None e = refl
none_from_test (Some x) e = absurd (true≢false e)

-- where neither reason is given, the second isn't
pub second-none : (first second : Option Reason) → or_else first second ≡ None → second ≡ None
second-none None second e = e
second-none (Some reason) second e = absurd (true≢false (ap is_some e))

-- nor is the first
first-none : (first second : Option Reason) → or_else first second ≡ None → first ≡ None
first-none None second e = refl
first-none (Some reason) second e = e

-- a rule that isn't broken fails its test
test-none : (test : Bool) (rule : Rule) (at : ℕ) → broken_if test rule at ≡ None → test ≡ false
test-none true rule at e = absurd (true≢false (ap is_some e))
test-none false rule at e = refl

-- loops that are not too many are at most 64
pub loops_at_most_64 : (profile : Profile) (loops at : ℕ) → IsLawfulProfile profile → too_many profile loops at ≡ None → loops ≤ 64
loops_at_most_64 profile loops at limits sound = omega (arith, limits.hold, ltb-false profile.hold loops (test-none (nat_lt profile.hold loops) _ at sound))

-- an instruction that breaks no rule puts too many loops on no needle
pub size_unbroken : (profile : Profile) (i : Instr) (s : State) → broken_instr profile i s ≡ None → size_broken profile i s ≡ None
size_unbroken profile i s sound =
    first-none (size_broken profile i s) (float_broken profile i s) (second-none (slider_broken i s) _ (second-none (rack_broken i s) _ (second-none (carrier_broken i s) _ sound)))

instr_has-room : (profile : Profile) (d : ℕ) (i : Instr) (machine : Machine) (s : State) → IsLawfulProfile profile → IsLawfulInstr profile d i → Represents machine s → broken_instr profile i s ≡ None
    → HasLoopRoom machine i
instr_has-room profile d (Tuck dir n []) machine s limits lawful here sound = tt
instr_has-room profile d (Tuck dir n (c ∷ cs)) machine s limits lawful here sound =
    omega (arith, ap length (here.stacks n), loops_at_most_64 profile (length (s.stacks n) + 1) 2 limits (size_unbroken profile (Tuck dir n (c ∷ cs)) s sound))
instr_has-room profile d (Split dir n n2 cs) machine s limits lawful here sound = record {
  sides = lawful.moved.sides;
  room = omega (arith, ap length (here.stacks n), ap length (here.stacks n2), loops_at_most_64 profile (length (s.stacks n2) + length (s.stacks n)) 3 limits (size_unbroken profile (Split dir n n2 cs) s sound));
}
instr_has-room profile d (Xfer n n2) machine s limits lawful here sound = record {
  sides = lawful.moved.sides;
  room = omega (arith, ap length (here.stacks n), ap length (here.stacks n2), loops_at_most_64 profile (length (s.stacks n2) + length (s.stacks n)) 2 limits (size_unbroken profile (Xfer n n2) s sound));
}
instr_has-room profile d i machine s limits lawful here sound = tt

-- a lawful line that breaks no rule has room for its loops
pub line_has-room : (profile : Profile) (d : ℕ) (r : Read) (machine : Machine) (s : State) → IsLawfulProfile profile → IsLawfulRead profile d r → Represents machine s → broken profile r s ≡ None
    → HasRoomInLine machine r
line_has-room profile d (read.Instr i) machine s limits lawful here sound = instr_has-room profile d i machine s limits lawful here sound
line_has-room profile d r machine s limits lawful here sound = tt

-- the line's carrier is one of the 64 that a set has bits for
pub usual_has-carrier : (profile : Profile) (d : ℕ) (u : Usual) → d ≤ 64 → IsLawfulRead profile d (usual_read u) → HasCarrierInSet u
usual_has-carrier profile d (usual.Knit dir n c) few lawful = omega (arith, few, lawful.carriers.each 0 c (omega arith))
usual_has-carrier profile d (usual.Tuck dir n c) few lawful = omega (arith, few, lawful.carriers.each 0 c (omega arith))
usual_has-carrier profile d (usual.Xfer n n2) few lawful = tt
