-- Rising lists of needles, merged.
use Rattle.std.specs.Prelude.{◌≡◌, List, [], ◌∷◌}
use Rattle.std.specs.declared.cmp.Ordering.{Ordering}
use Rattle.std.specs.declared.cmp.Ordering.TheVariants.{Less, Equal, Greater}
use Rattle.knit_base.specs.Needle.{needle_cmp}
use Rattle.knit_base.specs.declared.needle.Needle.{Needle}

-- each needle is greater than the one before it
abbrev pub IsBelowNeedles : Needle → List Needle → Type 0
IsBelowNeedles n [] = Unit {0}
IsBelowNeedles n (m ∷ ms) = needle_cmp n m ≡ Less

abbrev pub AreNeedlesRising : List Needle → Type 0
AreNeedlesRising [] = Unit {0}
AreNeedlesRising (n ∷ ns) = IsBelowNeedles n ns × AreNeedlesRising ns

abbrev pub choose_by_order : {A : Type 0} → Ordering → A → A → A → A
choose_by_order Less less equal greater = less
choose_by_order Equal less equal greater = equal
choose_by_order Greater less equal greater = greater

-- a needle, and what it is merged with, put into the others
abbrev pub merged_into : Needle → (List Needle → List Needle) → List Needle → List Needle
merged_into n rest [] = n ∷ rest []
merged_into n rest (m ∷ ms) = choose_by_order (needle_cmp n m) (n ∷ rest (m ∷ ms)) (n ∷ rest ms) (m ∷ merged_into n rest ms)

-- the needles of both lists, each once where both rise
abbrev pub merged_needles : List Needle → List Needle → List Needle
merged_needles [] ms = ms
merged_needles (n ∷ ns) ms = merged_into n (merged_needles ns) ms
