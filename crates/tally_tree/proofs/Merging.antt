-- Needles that are merged one by one.
use Rattle.std.proofs.Common.{◌≡◌, ◌∙◌, ◌⊎◌, inl, inr, ◌+◌, List, [], ◌∷◌, ◌++◌, length, ap, sym, refl, arith, append_assoc, append-nil}
use Rattle.knit_base.specs.declared.needle.Needle.{Needle}
use Rattle.tally_tree.specs.Needles.{merged_needles}
use Rattle.tally_tree.specs.Merging.{merged_none}

-- one needle more was appended
pub one_appended : (out more rest whole : List Needle) (n : Needle) → more ≡ n ∷ rest → out ++ more ≡ whole → (out ++ n ∷ []) ++ rest ≡ whole
one_appended out more rest whole n first is = append_assoc out (n ∷ []) rest ∙ ap (λ t. out ++ t) (sym first) ∙ is

no_needles : (ns : List Needle) → length ns ≡ 0 → ns ≡ []
no_needles [] e = refl
no_needles (n ∷ ns) e = absurd (omega (arith, e))

-- one of the lists is at its end, and the other is appended
pub merge_end : (out ns ms whole first second : List Needle) → (length ns ≡ 0) ⊎ (length ms ≡ 0) → first ≡ out ++ ns → second ≡ first ++ ms → out ++ merged_needles ns ms ≡ whole → second ≡ whole
merge_end out ns ms whole first second (inl e) p q is =
    let none = no_needles ns e in
    q ∙ ap (λ t. t ++ ms) (p ∙ ap (λ t. out ++ t) none ∙ append-nil out) ∙ ap (λ t. out ++ merged_needles t ms) (sym none) ∙ is
merge_end out ns ms whole first second (inr e) p q is =
    let none = no_needles ms e in
    q ∙ ap (λ t. first ++ t) none ∙ append-nil first ∙ p ∙ ap (λ t. out ++ t) (sym (merged_none ns)) ∙ ap (λ t. out ++ merged_needles ns t) (sym none) ∙ is

-- then the other list is all that is left
pub end_long : (ns ms : List Needle) → (length ns ≡ 0) ⊎ (length ms ≡ 0) → length (merged_needles ns ms) ≡ length ns + length ms
end_long ns ms (inl e) = omega (arith, ap (λ t. length (merged_needles t ms)) (no_needles ns e))
end_long ns ms (inr e) = omega (arith, ap (λ t. length (merged_needles ns t)) (no_needles ms e), ap length (merged_none ns))
