-- Numbers, added one by one, where the others are at their end.
use Rattle.std.proofs.Common.{◌≡◌, ◌∙◌, ℕ, List, [], ◌∷◌, ◌++◌, length, ap, sym, refl, arith, append-nil}
use Rattle.tally_tree.specs.Tallies.{numbers_added}

added_none : (xs : List ℕ) → numbers_added xs [] ≡ []
added_none [] = refl
added_none (x ∷ xs) = refl

no_numbers : (xs : List ℕ) → length xs ≡ 0 → xs ≡ []
no_numbers [] e = refl
no_numbers (x ∷ xs) e = absurd (omega (arith, e))

pub add_end : (out xs ys whole : List ℕ) → length ys ≡ 0 → out ++ numbers_added xs ys ≡ whole → out ≡ whole
add_end out xs ys whole e is = sym (append-nil out) ∙ ap (λ t. out ++ t) (sym (added_none xs) ∙ ap (numbers_added xs) (sym (no_numbers ys e))) ∙ is
