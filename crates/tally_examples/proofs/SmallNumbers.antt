-- Small numbers add up within 32 bits.
use Rattle.std.proofs.Common.{ℕ, ◌<◌, List, [], ◌∷◌, All, arith}
use Rattle.std.proofs.lemmas.List.Elements.{All-head, All-tail}
use Rattle.tally_tree.specs.Tallies.{AddUp}

abbrev pub IsSmall : ℕ → Type 0
IsSmall n = n < 1000

pub small_add_up : (xs ys : List ℕ) → All IsSmall xs → All IsSmall ys → AddUp xs ys
small_add_up [] ys small_xs small_ys = tt
small_add_up (x ∷ xs) [] small_xs small_ys = tt
small_add_up (x ∷ xs) (y ∷ ys) small_xs small_ys = (
  omega (arith, All-head IsSmall x xs small_xs, All-head IsSmall y ys small_ys),
  small_add_up xs ys (All-tail IsSmall x xs small_xs) (All-tail IsSmall y ys small_ys),
)
