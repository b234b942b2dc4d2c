-- Sums of counts: what the tests' store keeps at leaves and inner nodes, and the laws that it obeys.
use Rattle.std.proofs.Common.{◌≡◌, ℕ, ◌+◌, ◌<◌, ◌≤◌, ◌^◌, ◌-◌, List, [], ◌∷◌, ◌++◌, length, Option, None, arith}
use Rattle.std.specs.Prelude.{min, slice_index_or}
use Rattle.tree_shape.specs.Composing.{StandLaws, RoomLaws, Costs}
use Rattle.tree_shape.specs.Values.{leaf_values}
use Rattle.tree_shape.specs.View.{ShapeView}
use Rattle.value_tree.specs.Kept.{KeepsLeafValues}

-- the sum with a number, if there is one
abbrev pub sum_at : List (Option ℕ) → ℕ → Option ℕ
sum_at sums k = slice_index_or sums k None

-- how many numbers there is a place for
abbrev pub places : List (Option ℕ) → List (Option ℕ) → ℕ
places leaves nodes = min (length leaves) (length nodes)

-- all counts together
abbrev pub sum_of : List ℕ → ℕ
sum_of [] = 0
sum_of (x ∷ xs) = x + sum_of xs

-- the counts add up to less than 2 ^ 32
abbrev pub AreFew : List ℕ → Type 0
AreFew counts = sum_of counts < 2 ^ 32

-- so do two sums
abbrev pub AreFewTogether : ℕ → ℕ → Type 0
AreFewTogether a b = a + b < 2 ^ 32

-- the value is the sum of the counts
abbrev pub IsSum : List ℕ → ℕ → Type 0
IsSum counts value = value ≡ sum_of counts

-- a sum that stays within eight bytes, for rooms
abbrev pub capped_sum : ℕ → ℕ → ℕ
capped_sum a b = min (a + b) (2 ^ 64 - 1)

-- each value costs a step
abbrev pub one_step : ℕ → ℕ
one_step value = 1

-- a tree of sums, by the values of its store and its shape
abbrev pub IsKeptSums : List (Option ℕ) → List (Option ℕ) → ShapeView → Type 0
IsKeptSums leaves nodes shape = KeepsLeafValues ◌+◌ AreFew (sum_at leaves) (sum_at nodes) (places leaves nodes) shape

-- the sum of all counts in it
abbrev pub sum_in : List (Option ℕ) → ShapeView → ℕ
sum_in leaves shape = sum_of (leaf_values (sum_at leaves) shape.tree)

-- the sum of two lists, one after the other
pub sum-append : (xs ys : List ℕ) → sum_of (xs ++ ys) ≡ sum_of xs + sum_of ys
sum-append [] ys = omega arith
sum-append (x ∷ xs) ys = omega (arith, sum-append xs ys)

pub stand_laws : StandLaws AreFew IsSum ◌+◌ AreFewTogether
stand_laws = record {
  one = λ v s. omega arith;
  front = λ xs ys s. omega (arith, sum-append xs ys);
  back = λ xs ys s. omega (arith, sum-append xs ys);
  both = λ xs ys a b s t u. (omega (arith, sum-append xs ys), omega (arith, sum-append xs ys));
}

pub room_laws : RoomLaws ◌+◌ AreFewTogether (λ v. v) capped_sum ◌≤◌
room_laws = record { same = λ a. omega arith; along = λ a b c p q. omega arith; bounds = λ a b f. omega arith; rises = λ a b c d p q. omega arith }

pub cost_law : (xs : List ℕ) → AreFew xs → (each : ℕ) × Costs IsSum one_step each xs
cost_law xs s = (1, λ before run after v e t. omega arith)
