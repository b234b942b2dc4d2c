-- Lawful lines name needles whose numbers have 16 bits.
use Rattle.std.proofs.Common.{ℕ, ◌<◌, ◌≤◌, ◌^◌, ℤ, pos, negsuc, ◌-ℤ◌, ◌≤ℤ◌, List, [], ◌∷◌, All, arith}
use Rattle.std.specs.Option.{option_map, option_to_list}
use Rattle.std.proofs.lemmas.Int.{ints}
use Rattle.std.proofs.lemmas.List.Elements.{All-append, All-cons, All-head, All-nil, All-tail}
use Rattle.knit_base.specs.declared.instr.Instr.{Instr}
use Rattle.knit_base.specs.declared.instr.Instr.TheVariants.{Knit, Tuck, Split}
use Rattle.knit_base.specs.declared.instr.Read.{Read}
use Rattle.knit_base.specs.declared.instr.Read.TheVariants as read
use Rattle.knit_base.specs.declared.needle.Needle.{Needle}
use Rattle.knit_base.specs.declared.profile.Profile.{Profile}
use Rattle.knit_base.specs.declared.yarns.CarrierNo.{CarrierNo}
use Rattle.knit_base.specs.Instr.{formed_on, forming_needle, needles_of}
use Rattle.knit_base.specs.Lawful.{AreOnBed, IsLawfulInstr, IsLawfulRead, IsOnBed}
use Rattle.knit_base.specs.Limits.{IsLawfulProfile}
use Rattle.knit_base.specs.Needle.{own_slider}
use Rattle.face_data.specs.Spots.{IsNumbered, number_place}
use Rattle.block_summary.specs.Prepared.{AreNeedlesKnown}
use Rattle.block_summary.specs.NamedNeedles.{line_needles, needles_named}
use Rattle.block_summary.proofs.Blocks.{named_known}

number_small : (at : ℤ) → (pos 0 -ℤ pos 4096) ≤ℤ at → at ≤ℤ pos 4096 → number_place at < 2 ^ 16
number_small (pos n) above below = let few : n ≤ 4096 = omega (arith, ints, below) in omega (arith, few)
number_small (negsuc n) above below = let few : n ≤ 4096 = omega (arith, ints, above) in omega (arith, few)

-- a needle on the bed
on_bed : (profile : Profile) (n : Needle) → IsLawfulProfile profile → IsOnBed profile n → IsNumbered n
on_bed profile n lawful on = number_small n.at (omega (arith, ints, lawful.lowest, on.above)) (omega (arith, ints, on.below, lawful.highest))

all_on_bed : (profile : Profile) (ns : List Needle) → IsLawfulProfile profile → AreOnBed profile ns → All IsNumbered ns
all_on_bed profile [] lawful on = All-nil IsNumbered
all_on_bed profile (n ∷ ns) lawful on = All-cons IsNumbered n ns (on_bed profile n lawful on.0) (all_on_bed profile ns lawful on.1)

slider_numbered : (n : Needle) (cs : List CarrierNo) → IsNumbered n → All IsNumbered (option_to_list (option_map own_slider (formed_on n cs)))
slider_numbered n [] is = All-nil IsNumbered
slider_numbered n (c ∷ cs) is = All-cons IsNumbered (own_slider n) [] is (All-nil IsNumbered)

forming_numbered : (profile : Profile) (carriers : ℕ) (i : Instr) → IsLawfulProfile profile → IsLawfulInstr profile carriers i → All IsNumbered (option_to_list (option_map own_slider (forming_needle i)))
forming_numbered profile carriers (Knit dir n cs) bounds lawful = slider_numbered n cs (on_bed profile n bounds lawful.needles.0)
forming_numbered profile carriers (Tuck dir n cs) bounds lawful = slider_numbered n cs (on_bed profile n bounds lawful.needles.0)
forming_numbered profile carriers (Split dir n n2 cs) bounds lawful = slider_numbered n cs (on_bed profile n bounds lawful.needles.0)
forming_numbered profile carriers i bounds lawful = All-nil IsNumbered

line_numbered : (profile : Profile) (carriers : ℕ) (r : Read) → IsLawfulProfile profile → IsLawfulRead profile carriers r → All IsNumbered (line_needles r)
unfolding line_needles
line_numbered profile carriers (read.Instr i) bounds lawful =
    All-append IsNumbered (needles_of i) (option_to_list (option_map own_slider (forming_needle i))) (all_on_bed profile (needles_of i) bounds lawful.needles)
    (forming_numbered profile carriers i bounds lawful)
line_numbered profile carriers r bounds lawful = All-nil IsNumbered

named_numbered : (profile : Profile) (carriers : ℕ) (rs : List Read) → IsLawfulProfile profile → All (IsLawfulRead profile carriers) rs → All IsNumbered (needles_named rs)
unfolding needles_named
named_numbered profile carriers [] bounds lawful = All-nil IsNumbered
named_numbered profile carriers (r ∷ rs) bounds lawful =
    All-append IsNumbered (line_needles r) (needles_named rs) (line_numbered profile carriers r bounds (All-head (IsLawfulRead profile carriers) r rs lawful))
    (named_numbered profile carriers rs bounds (All-tail (IsLawfulRead profile carriers) r rs lawful))

-- all that lawful lines name
pub record KnownOf (lines : List Read) : Type 0 where
  pub known : List Needle
  pub knows : AreNeedlesKnown known lines
  pub numbers : All IsNumbered known

pub known_of : (profile : Profile) (carriers : ℕ) (lines : List Read) → IsLawfulProfile profile → All (IsLawfulRead profile carriers) lines → KnownOf lines
known_of profile carriers lines bounds lawful = record { known = needles_named lines; knows = named_known lines; numbers = named_numbered profile carriers lines bounds lawful }
