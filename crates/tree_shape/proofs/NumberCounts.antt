-- What drawing a number and giving one back do to the count.
use Rattle.std.proofs.Common.{◌≡◌, ◌≢◌, ℕ, zero, suc, ◌+◌, ◌-◌, ◌<◌, ◌≤◌, max, List, [], ◌∷◌, ◌++◌, length, take, refl, ap, arith, length-append, inl, inr}
use Rattle.std.specs.List.{slice_get}
use Rattle.std.proofs.Common.{Some}
use Rattle.std.proofs.lemmas.Bool.Decides.{leb_tells}
use Rattle.std.proofs.lemmas.Option.{slice_get_within}
use Rattle.tree_shape.specs.Apply.{mark}
use Rattle.tree_shape.specs.Numbers.{NumbersView, times_in, last_or, next_number, taken_from, numbers_without_next, given_back, AreNumbersAccounted}
use Rattle.tree_shape.proofs.ArenaChanges.{mark_is_one_or_none, one_same}

pub times_in-append : (k : ℕ) (xs ys : List ℕ) → times_in k (xs ++ ys) ≡ times_in k xs + times_in k ys
times_in-append k [] ys = omega arith
times_in-append k (x ∷ xs) ys = omega (arith, times_in-append k xs ys)

pub last_of_append : (other n : ℕ) (xs : List ℕ) → last_or other (xs ++ n ∷ []) ≡ n
last_of_append other n [] = refl
last_of_append other n (x ∷ xs) = last_of_append x n xs

but_last : (x n : ℕ) (xs : List ℕ) → take (length (xs ++ n ∷ [])) (x ∷ (xs ++ n ∷ [])) ≡ x ∷ xs
but_last x n [] = refl
but_last x n (y ∷ ys) = ap (λ v. x ∷ v) (but_last y n ys)

pub taken_append : (n drawn : ℕ) (xs : List ℕ) → taken_from (xs ++ n ∷ []) drawn ≡ record { free = xs; drawn = drawn }
taken_append n drawn [] = refl
taken_append n drawn (x ∷ xs) = ap (λ v. record { free = v; drawn = drawn }) (but_last x n xs)

-- a list that is not empty is one with a last item
split_last : (x : ℕ) (xs : List ℕ) → x ∷ xs ≡ take (length xs) (x ∷ xs) ++ last_or x xs ∷ []
split_last x [] = refl
split_last x (y ∷ ys) = ap (λ v. x ∷ v) (split_last y ys)

-- how a number comes: the count drawn, or one of the free ones
pub data Comes (v : NumbersView) : Type 0 where
  drawn_new : v.free ≡ [] → next_number v ≡ v.drawn → (numbers_without_next v).free ≡ [] → (numbers_without_next v).drawn ≡ v.drawn + 1 → Comes v
  free_again : v.free ≡ (numbers_without_next v).free ++ next_number v ∷ [] → (numbers_without_next v).drawn ≡ v.drawn → Comes v

comes_from : (free : List ℕ) (drawn : ℕ) → Comes (record { free = free; drawn = drawn })
comes_from [] drawn = drawn_new refl refl refl refl
comes_from (x ∷ xs) drawn = free_again (split_last x xs) refl

pub comes : (v : NumbersView) → Comes v
comes v = comes_from v.free v.drawn

once_in : (k : ℕ) → times_in k (k ∷ []) ≡ 1
once_in k = omega (arith, one_same k)

pub counted_times : (v : NumbersView) (used : List ℕ) (k : ℕ) → AreNumbersAccounted v used → times_in k used + times_in k v.free ≤ 1
counted_times v used k c = elim (leb_tells v.drawn k) [ inl w ↦ omega (arith, c.not_drawn k w.1) | inr w ↦ omega (arith, c.drawn_once k w.1) ]

-- the next number is not in use
pub fresh : (v : NumbersView) (used : List ℕ) → AreNumbersAccounted v used → times_in (next_number v) used ≡ 0
fresh v used c = elim (comes v) [
  | drawn_new e n f d ↦ omega (arith, c.not_drawn (next_number v) (omega (arith, n)))
  | free_again e d ↦ omega (arith, counted_times v used (next_number v) c, ap (times_in (next_number v)) e, times_in-append (next_number v) (numbers_without_next v).free (next_number v ∷ []), once_in (next_number v))
]

-- where the next number stands among those drawn
pub next_place : (v : NumbersView) (used : List ℕ) → AreNumbersAccounted v used → (next_number v ≤ v.drawn) × (max v.drawn (next_number v + 1) ≡ (numbers_without_next v).drawn)
next_place v used c = elim (comes v) [
  | drawn_new e n f d ↦ (omega (arith, n), omega (arith, n, d))
  | free_again e d ↦ elim (leb_tells v.drawn (next_number v)) [
    | inr w ↦ (omega (arith, w.1), omega (arith, w.1, d))
    | inl w ↦ absurd (omega (arith, c.not_drawn (next_number v) w.1, ap (times_in (next_number v)) e, times_in-append (next_number v) (numbers_without_next v).free (next_number v ∷ []), once_in (next_number v)))
  ]
]

below : (k n d e : ℕ) → k ≢ n → n ≡ d → e ≡ d + 1 → k < e → k < d
below k n d e apart same next h = elim (leb_tells d k) [ inl w ↦ absurd (apart (omega (arith, w.1))) | inr w ↦ w.1 ]

pub counted_taken : (v : NumbersView) (used more : List ℕ) → AreNumbersAccounted v used → length used < 65536 → length more ≡ length used + 1 → ((k : ℕ) → times_in k more ≡ mark k (next_number v) + times_in k used) → AreNumbersAccounted (numbers_without_next v) more
counted_taken v used more c few long told = elim (comes v) [
  | drawn_new e n f d ↦ record {
    drawn_once = λ k h. elim (mark_is_one_or_none k (next_number v)) [
      | inl w ↦ omega (arith, told k, w.1, w.0, n, c.not_drawn k (omega (arith, w.0, n)), ap (times_in k) f)
      | inr w ↦ omega (arith, told k, w.1, c.drawn_once k (below k (next_number v) v.drawn (numbers_without_next v).drawn w.0 n d h), ap (times_in k) e, ap (times_in k) f)
    ];
    not_drawn = λ k h. elim (mark_is_one_or_none k (next_number v)) [
      | inl w ↦ absurd (omega (arith, w.0, n, d))
      | inr w ↦ omega (arith, told k, w.1, c.not_drawn k (omega (arith, d)), ap (times_in k) e, ap (times_in k) f)
    ];
    all = omega (arith, ap length e, ap length f, c.all, long, d);
    few = omega (arith, ap length e, c.all, d);
  }
  | free_again e d ↦
      let split : (k : ℕ) → times_in k v.free ≡ times_in k (numbers_without_next v).free + mark k (next_number v) = λ k. omega (arith, ap (times_in k) e, times_in-append k (numbers_without_next v).free (next_number v ∷ [])) in
      record {
        drawn_once = λ k h. omega (arith, told k, split k, c.drawn_once k (omega (arith, d)));
        not_drawn = λ k h. omega (arith, told k, split k, c.not_drawn k (omega (arith, d)));
        all = omega (arith, ap length e, length-append (numbers_without_next v).free (next_number v ∷ []), c.all, long, d);
        few = omega (arith, c.few, d);
      }
]

pub counted_back : (v : NumbersView) (used fewer : List ℕ) (n : ℕ) → AreNumbersAccounted v used → length used ≡ length fewer + 1 → ((k : ℕ) → times_in k fewer + mark k n ≡ times_in k used) → AreNumbersAccounted (given_back n v) fewer
counted_back v used fewer n c long told = record {
  drawn_once = λ k h. omega (arith, told k, times_in-append k v.free (n ∷ []), c.drawn_once k h);
  not_drawn = λ k h. omega (arith, told k, times_in-append k v.free (n ∷ []), c.not_drawn k h);
  all = omega (arith, length-append v.free (n ∷ []), c.all, long);
  few = c.few;
}

pub counted_none : AreNumbersAccounted (record { free = []; drawn = 0 }) []
counted_none = record { drawn_once = λ k h. absurd (omega arith); not_drawn = λ k h. refl; all = refl; few = omega arith }

last_at : (other n i : ℕ) (xs : List ℕ) → i + 1 ≡ length xs → slice_get xs i ≡ Some n → last_or other xs ≡ n
last_at other n i [] e g = absurd (omega arith)
last_at other n zero (x ∷ []) e g = cc
last_at other n (suc i) (x ∷ []) e g = absurd (omega arith)
last_at other n zero (x ∷ (y ∷ ys)) e g = absurd (omega arith)
last_at other n (suc i) (x ∷ (y ∷ ys)) e g = last_at x n i (y ∷ ys) (omega arith) g

pub last_is : (other n : ℕ) (xs : List ℕ) → slice_get xs (length xs - 1) ≡ Some n → last_or other xs ≡ n
last_is other n xs g = last_at other n (length xs - 1) xs (omega (arith, slice_get_within xs (length xs - 1) n g)) g
