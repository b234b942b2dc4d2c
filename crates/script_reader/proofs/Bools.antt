-- Conditions that hold together.
use Rattle.std.proofs.Common.{◌≡◌, Bool, true, false, ◌&&◌, List, [], ◌∷◌, ◌++◌, refl}
use Rattle.std.specs.List.{list_all}

pub both_true : (a b : Bool) → a ≡ true → b ≡ true → (a && b) ≡ true
both_true true true x y = refl
both_true true false x y = y
both_true false b x y = x

pub first_true : (a b : Bool) → (a && b) ≡ true → a ≡ true
first_true true b x = refl
first_true false b x = x

pub second_true : (a b : Bool) → (a && b) ≡ true → b ≡ true
second_true true b x = x
second_true false b x = absurd (cc)

pub all_snoc : {A : Type 0} (p : A → Bool) (xs : List A) (x : A) → list_all p xs ≡ true → p x ≡ true → list_all p (xs ++ x ∷ []) ≡ true
all_snoc p [] x all is = both_true (p x) true is refl
all_snoc p (y ∷ ys) x all is = both_true (p y) (list_all p (ys ++ x ∷ [])) (first_true (p y) (list_all p ys) all) (all_snoc p ys x (second_true (p y) (list_all p ys) all) is)

pub all_front : {A : Type 0} (p : A → Bool) (xs : List A) (x : A) → list_all p (xs ++ x ∷ []) ≡ true → list_all p xs ≡ true
all_front p [] x all = refl
all_front p (y ∷ ys) x all = both_true (p y) (list_all p ys) (first_true (p y) (list_all p (ys ++ x ∷ [])) all) (all_front p ys x (second_true (p y) (list_all p (ys ++ x ∷ [])) all))

pub all_end : {A : Type 0} (p : A → Bool) (xs : List A) (x : A) → list_all p (xs ++ x ∷ []) ≡ true → p x ≡ true
all_end p [] x all = first_true (p x) true all
all_end p (y ∷ ys) x all = all_end p ys x (second_true (p y) (list_all p (ys ++ x ∷ [])) all)

-- two conditions on all items
pub all_first : {A : Type 0} (p q : A → Bool) (xs : List A) → list_all (λ x. p x && q x) xs ≡ true → list_all p xs ≡ true
all_first p q [] all = refl
all_first p q (x ∷ xs) all =
    both_true (p x) (list_all p xs) (first_true (p x) (q x) (first_true (p x && q x) (list_all (λ x. p x && q x) xs) all)) (all_first p q xs (second_true (p x && q x) (list_all (λ x. p x && q x) xs) all))

pub all_second : {A : Type 0} (p q : A → Bool) (xs : List A) → list_all (λ x. p x && q x) xs ≡ true → list_all q xs ≡ true
all_second p q [] all = refl
all_second p q (x ∷ xs) all =
    both_true (q x) (list_all q xs) (second_true (p x) (q x) (first_true (p x && q x) (list_all (λ x. p x && q x) xs) all)) (all_second p q xs (second_true (p x && q x) (list_all (λ x. p x && q x) xs) all))

pub not_true : (b : Bool) → (b ≡ true → ⊥) → b ≡ false
not_true true isnt = absurd (isnt refl)
not_true false isnt = refl
