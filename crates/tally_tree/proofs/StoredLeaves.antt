-- Tallies at the leaves of a store that has those of some texts, one after the other.
use Rattle.std.proofs.Common.{◌≡◌, ◌∙◌, ℕ, suc, ◌+◌, List, [], ◌∷◌, length, map, Option, Some, All, ap, sym, subst, arith}
use Rattle.std.specs.Prelude.{option_map}
use Rattle.std.specs.List.{AllZip}
use Rattle.std.proofs.lemmas.List.Elements.{All-cons, All-nil}
use Rattle.knit_base.specs.declared.setting.Setting.{Setting}
use Rattle.edit_journal.specs.Documents.{Block}
use Rattle.tree_shape.specs.Building.{numbers_from}
use Rattle.tree_shape.specs.Changes.{numbers_below}
use Rattle.tree_shape.specs.Values.{AreThere, values_of_numbers, joined_on}
use Rattle.tree_shape.proofs.Halves.{below_from}
use Rattle.tally_tree.specs.declared.tally.Tally.{Tally}
use Rattle.tally_tree.specs.Leaves.{IsOnBeds, tally_at}
use Rattle.tally_tree.specs.Tallies.{TallyCounts, counts_of_tally}
use Rattle.tally_tree.specs.Trees.{HasLeaf, IsLeafIn, IsTallyIn}

-- the leaves with these numbers are there, and are tallies of these texts
pub record AreStored (setting : Setting) (leaf_at : ℕ → Option TallyCounts) (numbers : List ℕ) (texts : List (List (List ℕ))) : Type 0 where
  pub there : AreThere leaf_at numbers
  pub leaves : AllZip (IsLeafIn setting) (values_of_numbers leaf_at numbers) texts

stored_from : (setting : Setting) (slots : List (Option Tally)) (texts : List (List (List ℕ))) (first : ℕ) (leaf_at : ℕ → Option TallyCounts) → ((k : ℕ) → leaf_at (first + k) ≡ tally_at slots k) → AllZip (HasLeaf setting) slots texts
    → AreStored setting leaf_at (numbers_from first (length slots)) texts
stored_from setting [] [] first leaf_at each h = record { there = tt; leaves = tt }
stored_from setting [] (text ∷ texts) first leaf_at each h = absurd h
stored_from setting (slot ∷ slots) [] first leaf_at each h = absurd h
stored_from setting (slot ∷ slots) (text ∷ texts) first leaf_at each h =
    let v : TallyCounts = counts_of_tally h.0.0 in
    let same : first ≡ first + 0 = omega arith in
    let here : leaf_at first ≡ Some v = ap leaf_at same ∙ (each 0 ∙ ap (option_map counts_of_tally) h.0.1) in
    let rest = stored_from setting slots texts (suc first) leaf_at (λ k. let next : suc first + k ≡ first + suc k = omega arith in ap leaf_at next ∙ each (suc k)) h.1 in
    record {
      there = ((v, here), rest.there);
      leaves = subst (λ o. AllZip (IsLeafIn setting) (joined_on o (values_of_numbers leaf_at (numbers_from (suc first) (length slots)))) (text ∷ texts)) (sym here) (h.0.2, rest.leaves);
    }

-- those with the numbers below a count
pub stored_below : (setting : Setting) (slots : List (Option Tally)) (texts : List (List (List ℕ))) (many : ℕ) → many ≡ length slots → AllZip (HasLeaf setting) slots texts → AreStored setting (tally_at slots) (numbers_below many) texts
stored_below setting slots texts many is h =
    subst (λ ns. AreStored setting (tally_at slots) ns texts) (below_from (length slots) ∙ ap numbers_below (sym is))
    (stored_from setting slots texts 0 (tally_at slots) (λ k. let same : 0 + k ≡ k = omega arith in ap (tally_at slots) same) h)

-- leaves of texts lie on beds
pub stored_on_beds : (setting : Setting) (vs : List TallyCounts) (texts : List (List (List ℕ))) → AllZip (IsLeafIn setting) vs texts → All IsOnBeds vs
stored_on_beds setting [] texts h = All-nil IsOnBeds
stored_on_beds setting (v ∷ vs) [] h = absurd h
stored_on_beds setting (v ∷ vs) (text ∷ texts) h = All-cons IsOnBeds v vs h.0.on_beds (stored_on_beds setting vs texts h.1)

-- and are tallies of the blocks that have these texts
pub stored_blocks : (setting : Setting) (vs : List TallyCounts) (blocks : List Block) → AllZip (IsLeafIn setting) vs (map (λ (b : Block). b.lines) blocks) → AllZip (λ (v : TallyCounts) (b : Block). IsTallyIn setting v b.lines) vs blocks
stored_blocks setting [] [] h = tt
stored_blocks setting [] (b ∷ blocks) h = absurd h
stored_blocks setting (v ∷ vs) [] h = absurd h
stored_blocks setting (v ∷ vs) (b ∷ blocks) h = (h.0.tally, stored_blocks setting vs blocks h.1)
