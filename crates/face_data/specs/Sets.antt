-- Lists of needles as sets.
use Rattle.std.specs.Prelude.{◌⊎◌, List, [], ◌∷◌}
use Rattle.std.specs.List.{Contains}
use Rattle.knit_base.specs.declared.needle.Needle.{Needle}

-- each needle stands once
abbrev pub IsDistinct : List Needle → Type 0
IsDistinct [] = Unit {0}
IsDistinct (n ∷ ns) = (Contains ns n → ⊥) × IsDistinct ns

-- every needle of the first list is in the second
abbrev pub AreNeedlesWithin : List Needle → List Needle → Type 0
AreNeedlesWithin xs ys = (n : Needle) → Contains xs n → Contains ys n

-- no needle is in both
abbrev pub IsApart : List Needle → List Needle → Type 0
IsApart xs ys = (n : Needle) → Contains xs n → Contains ys n → ⊥

-- one list lies within the other, or no needle is in both
abbrev pub NestedOrApart : List Needle → List Needle → Type 0
NestedOrApart xs ys = AreNeedlesWithin xs ys ⊎ (AreNeedlesWithin ys xs ⊎ IsApart xs ys)
