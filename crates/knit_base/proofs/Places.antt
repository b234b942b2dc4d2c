-- The first place in a list.
use Rattle.std.proofs.Common.{◌≡◌, ℕ, ◌+◌, ◌<◌, ◌≤◌, Bool, true, false, cond, not, nat_lt, List, [], ◌∷◌, length, drop, get_or, map, None, Some, position, ap, sym, ◌∙◌, refl}
use Rattle.std.specs.List.{position_from, prefix_len, list_any}
use Rattle.std.proofs.lemmas.List.{drop_more, drop_all, length-map}
use Rattle.std.proofs.lemmas.Iterator.Adapters.{position_from-zero}

-- a test, and what holds either way
pub by_test : {P : Type 0} (b : Bool) → (b ≡ true → P) → (b ≡ false → P) → P
by_test true passed failed = passed refl
by_test false passed failed = failed refl

prefix_len-map : {A B : Type 0} (p : B → Bool) (f : A → B) (xs : List A) → prefix_len p (map f xs) ≡ prefix_len (λ x. p (f x)) xs
prefix_len-map p f [] = refl
prefix_len-map p f (x ∷ xs) = ap (λ n. cond (p (f x)) (1 + n) 0) (prefix_len-map p f xs)

pub position-map : {A B : Type 0} (p : B → Bool) (f : A → B) (xs : List A) → position p (map f xs) ≡ position (λ x. p (f x)) xs
position-map p f xs =
    ap (λ n. cond (nat_lt n (length (map f xs))) (Some n) None) (prefix_len-map (λ y. not (p y)) f xs)
    ∙ ap (λ l. cond (nat_lt (prefix_len (λ x. not (p (f x))) xs) l) (Some (prefix_len (λ x. not (p (f x))) xs)) None) (length-map xs f)

none_from : {A : Type 0} (p : A → Bool) (i : ℕ) (xs : List A) → position_from p i xs ≡ None → list_any p xs ≡ false
none_from p i [] none = refl
none_from p i (x ∷ xs) none =
    by_test (p x)
    (λ passes. let found : Some i ≡ None = sym (ap (λ b. cond b (Some i) (position_from p (i + 1) xs)) passes) ∙ none in cc)
    (λ fails.
    let later : list_any p xs ≡ false = none_from p (i + 1) xs (sym (ap (λ b. cond b (Some i) (position_from p (i + 1) xs)) fails) ∙ none) in
    simp (fails, later))

-- nothing passes where there is no first place
pub list_any-none : {A : Type 0} (p : A → Bool) (xs : List A) → position p xs ≡ None → list_any p xs ≡ false
list_any-none p xs none = none_from p 0 xs (sym (position_from-zero p xs) ∙ none)

place_here : {A B : Type 0} (p : B → Bool) (f : A → B) (xs : List A) (i : ℕ) (x d : A) → i < length xs → x ≡ get_or xs i d
    → position_from p i (map f (drop i xs)) ≡ cond (p (f x)) (Some i) (position_from p (i + 1) (map f (drop (i + 1) xs)))
place_here p f xs i x d within is = ap (λ ys. position_from p i (map f ys)) (drop_more xs i d within ∙ ap (λ y. y ∷ drop (i + 1) xs) (sym is))

-- the item at i passes
pub place-found : {A B : Type 0} (p : B → Bool) (f : A → B) (xs : List A) (i : ℕ) (x d : A) → i < length xs → x ≡ get_or xs i d
    → position_from p i (map f (drop i xs)) ≡ position_from p 0 (map f xs) → p (f x) ≡ true → position p (map f xs) ≡ Some i
place-found p f xs i x d within is so_far passes =
    position_from-zero p (map f xs) ∙ sym so_far ∙ place_here p f xs i x d within is ∙ ap (λ b. cond b (Some i) (position_from p (i + 1) (map f (drop (i + 1) xs)))) passes

-- it doesn't
pub place-passed : {A B : Type 0} (p : B → Bool) (f : A → B) (xs : List A) (i : ℕ) (x d : A) → i < length xs → x ≡ get_or xs i d
    → position_from p i (map f (drop i xs)) ≡ position_from p 0 (map f xs) → p (f x) ≡ false
    → position_from p (i + 1) (map f (drop (i + 1) xs)) ≡ position_from p 0 (map f xs)
place-passed p f xs i x d within is so_far fails =
    sym (ap (λ b. cond b (Some i) (position_from p (i + 1) (map f (drop (i + 1) xs)))) fails) ∙ sym (place_here p f xs i x d within is) ∙ so_far

pub place-none : {A B : Type 0} (p : B → Bool) (f : A → B) (xs : List A) (i : ℕ) → length xs ≤ i
    → position_from p i (map f (drop i xs)) ≡ position_from p 0 (map f xs) → position p (map f xs) ≡ None
place-none p f xs i past so_far = position_from-zero p (map f xs) ∙ sym so_far ∙ ap (λ ys. position_from p i (map f ys)) (drop_all i xs past)
