-- The needles of lawful lines are on the beds of some machine.
use Rattle.std.proofs.Common.{◌≡◌, inl, inr, ◌<◌, List, [], ◌∷◌, ◌++◌, Option, None, Some, subst, arith}
use Rattle.std.specs.List.{Contains}
use Rattle.std.specs.Prelude.{ℕ}
use Rattle.std.proofs.lemmas.Int.{ints}
use Rattle.std.proofs.lemmas.List.Elements.{Contains-append_cases, Contains-push_cases}
use Rattle.knit_base.specs.declared.instr.Read.{Read}
use Rattle.knit_base.specs.declared.instr.Read.TheVariants as read
use Rattle.knit_base.specs.declared.needle.Needle.{Needle}
use Rattle.knit_base.specs.declared.profile.Profile.{Profile}
use Rattle.knit_base.specs.Instr.{needles_of}
use Rattle.knit_base.specs.Lawful.{AreOnBed, IsLawfulRead, IsOnBed}
use Rattle.knit_base.specs.Limits.{IsLawfulProfile}
use Rattle.pass_grouping.specs.declared.operation.Class.{Class}
use Rattle.tally_tree.specs.Leaves.{IsOnBeds, IsOnSomeBed}
use Rattle.tally_tree.specs.Tallies.{TallyCounts, class_of, operated_on, where_some}

-- no needle is in an empty list
pub none_in : (n : Needle) → Contains [] n → ⊥
none_in n h = let below : h.0 < 0 = h.1 in absurd (omega arith)

on_some : (profile : Profile) (n : Needle) → IsLawfulProfile profile → IsOnBed profile n → IsOnSomeBed n
on_some profile n lawful on = record { above = omega (arith, ints); below = omega (arith, ints) }

all_on_some : (profile : Profile) (ns : List Needle) (n : Needle) → IsLawfulProfile profile → AreOnBed profile ns → Contains ns n → IsOnSomeBed n
all_on_some profile [] n lawful on h = absurd (none_in n h)
all_on_some profile (m ∷ ms) n lawful on h = elim (Contains-append_cases (m ∷ []) ms n h) [
  | inl first ↦ elim (Contains-push_cases [] m n first) [
    | inl none ↦ absurd (none_in n none)
    | inr same ↦ subst IsOnSomeBed same (on_some profile m lawful on.0)
  ]
  | inr later ↦ all_on_some profile ms n lawful on.1 later
]

where_some_on : (o : Option Class) (profile : Profile) (ns : List Needle) (n : Needle) → IsLawfulProfile profile → AreOnBed profile ns → Contains (where_some o ns) n → IsOnSomeBed n
where_some_on None profile ns n lawful on h = absurd (none_in n h)
where_some_on (Some class) profile ns n lawful on h = all_on_some profile ns n lawful on h

line_on_beds : (profile : Profile) (carriers : ℕ) (r : Read) (n : Needle) → IsLawfulProfile profile → IsLawfulRead profile carriers r → Contains (operated_on r) n → IsOnSomeBed n
line_on_beds profile carriers read.Blank n lawful is h = absurd (none_in n h)
line_on_beds profile carriers read.Comment n lawful is h = absurd (none_in n h)
line_on_beds profile carriers (read.Broken reason) n lawful is h = absurd (none_in n h)
line_on_beds profile carriers (read.Instr i) n lawful is h = where_some_on (class_of (read.Instr i)) profile (needles_of i) n lawful is.needles h

-- with those of one lawful line more
pub on_beds_more : (profile : Profile) (carriers : ℕ) (r : Read) (old new : TallyCounts) → IsLawfulProfile profile → IsLawfulRead profile carriers r → IsOnBeds old
    → new.needles ≡ old.needles ++ operated_on r → IsOnBeds new
on_beds_more profile carriers r old new lawful is on needles n h = elim (Contains-append_cases old.needles (operated_on r) n (subst (λ ns. Contains ns n) needles h)) [
  | inl earlier ↦ on n earlier
  | inr here ↦ line_on_beds profile carriers r n lawful is here
]
