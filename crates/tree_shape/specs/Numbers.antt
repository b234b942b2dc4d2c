-- Numbers that are drawn, given back and drawn again.
use Rattle.std.specs.Prelude.{◌≡◌, ℕ, ◌+◌, ◌<◌, ◌≤◌, List, [], ◌∷◌, ◌++◌, length, take}
use Rattle.tree_shape.specs.declared.numbers.Numbers.{Numbers}
use Rattle.tree_shape.specs.Apply.{mark}

-- the numbers that are free, the one that comes next last, and how many were drawn in all
pub record NumbersView : Type 0 where
  pub free : List ℕ
  pub drawn : ℕ

-- what the code keeps, as a value
abbrev pub numbers_view : Numbers → NumbersView
numbers_view n = record { free = n.free.items; drawn = n.drawn }

-- how often a number is in a list
abbrev pub times_in : ℕ → List ℕ → ℕ
times_in k [] = 0
times_in k (n ∷ ns) = mark k n + times_in k ns

-- the last of a list, or else another number
abbrev pub last_or : ℕ → List ℕ → ℕ
last_or other [] = other
last_or other (n ∷ ns) = last_or n ns

-- a new number: the free one given back last, or else the count drawn
abbrev pub next_number : NumbersView → ℕ
next_number v = last_or v.drawn v.free

-- the free ones without the last, or else one more drawn
abbrev pub taken_from : List ℕ → ℕ → NumbersView
taken_from [] drawn = record { free = []; drawn = drawn + 1 }
taken_from (n ∷ ns) drawn = record { free = take (length ns) (n ∷ ns); drawn = drawn }

-- the numbers without the next one
abbrev pub numbers_without_next : NumbersView → NumbersView
numbers_without_next v = taken_from v.free v.drawn

-- the numbers with one more that is free
abbrev pub given_back : ℕ → NumbersView → NumbersView
given_back n v = record { free = v.free ++ n ∷ []; drawn = v.drawn }

-- every number drawn is either in use or free, once, and no other number is
pub record AreNumbersAccounted (v : NumbersView) (used : List ℕ) : Type 0 where
  pub drawn_once : (k : ℕ) → k < v.drawn → times_in k used + times_in k v.free ≡ 1
  pub not_drawn : (k : ℕ) → v.drawn ≤ k → times_in k used + times_in k v.free ≡ 0
  pub all : length v.free + length used ≡ v.drawn
  pub few : v.drawn ≤ 65536
