-- The lines of a body, read so far.
use Rattle.std.proofs.Common.{◌≡◌, ℕ, ◌+◌, ◌<◌, ◌≤◌, List, [], ◌∷◌, ◌++◌, length, take, drop, get_or, All, Some, sym, ap, subst, ◌∙◌, arith, length-append, length-drop, slice_get}
use Rattle.std.specs.List.{AllZip}
use Rattle.std.proofs.lemmas.List.{take_more, take_all, take-append-drop, drop-drop, length_push, get_or-drop}
use Rattle.std.proofs.lemmas.Option.{get_or_from_slice_get}
use Rattle.std.proofs.lemmas.List.Elements.{All-append, All-push}
use Rattle.std.proofs.lemmas.Slice.Zip.{AllZip-long}

-- items of two lists, and of two others behind them
pub zip-append : {A B : Type 0} (R : A → B → Type 0) (xs us : List A) (ys vs : List B) → AllZip R xs ys → AllZip R us vs → AllZip R (xs ++ us) (ys ++ vs)
zip-append R [] us [] vs all more = more
zip-append R [] us (y ∷ ys) vs all more = absurd all
zip-append R (x ∷ xs) us [] vs all more = absurd all
zip-append R (x ∷ xs) us (y ∷ ys) vs all more = (all.0, zip-append R xs us ys vs all.1 more)

-- so many items on, each of the first list stands beside one of the second; and each of the second is as it should be
pub record ReadSoFar {A B : Type 0} (R : A → B → Type 0) (P : B → Type 0) (xs : List A) (from i : ℕ) (ys : List B) : Type 0 where
  pub counted : length ys + from ≡ i
  pub each : AllZip R (take (length ys) (drop from xs)) ys
  pub kept : All P ys

-- no item is read at first
pub read-none : {A B : Type 0} (R : A → B → Type 0) (P : B → Type 0) (xs : List A) (from : ℕ) → ReadSoFar R P xs from from []
read-none R P xs from = record { counted = omega arith; each = tt; kept = λ i d within. absurd (omega arith) }

-- one item more is read
pub read-more : {A B : Type 0} (R : A → B → Type 0) (P : B → Type 0) (xs : List A) (from i : ℕ) (ys after : List B) (x : A) (y : B)
    → ReadSoFar R P xs from i ys → i < length xs → slice_get xs i ≡ Some x → R x y → P y → after ≡ ys ++ y ∷ [] → ReadSoFar R P xs from (i + 1) after
read-more R P xs from i ys after x y so_far within found here kept is =
    let place : from + length ys ≡ i = omega (arith, so_far.counted) in
    let item : get_or (drop from xs) (length ys) x ≡ x = get_or-drop from xs (length ys) x ∙ ap (λ n. get_or xs n x) place ∙ get_or_from_slice_get xs i x x found in
    let inside : length ys < length (drop from xs) = omega (arith, length-drop from xs) in
    let taken : take (length ys + 1) (drop from xs) ≡ take (length ys) (drop from xs) ++ x ∷ [] =
    take_more (drop from xs) (length ys) x inside ∙ ap (λ u. take (length ys) (drop from xs) ++ u ∷ []) item in
    subst (ReadSoFar R P xs from (i + 1)) (sym is) (record {
      counted = omega (arith, so_far.counted, length_push ys y);
      each = subst (λ n. AllZip R (take n (drop from xs)) (ys ++ y ∷ [])) (sym (length_push ys y))
          (subst (λ us. AllZip R us (ys ++ y ∷ [])) (sym taken) (zip-append R _ (x ∷ []) ys (y ∷ []) so_far.each (here, tt)));
      kept = All-push P ys y so_far.kept kept;
    })

-- the items that are left are read at once
pub read-rest : {A B : Type 0} (R : A → B → Type 0) (P : B → Type 0) (xs : List A) (from i : ℕ) (ys more : List B)
    → ReadSoFar R P xs from i ys → AllZip R (drop i xs) more → All P more → ReadSoFar R P xs from (i + length more) (ys ++ more)
read-rest R P xs from i ys more so_far here kept =
    let rest : drop (length ys) (drop from xs) ≡ drop i xs = drop-drop (length ys) from xs ∙ ap (λ n. drop n xs) (omega (arith, so_far.counted)) in
    let whole : take (length ys) (drop from xs) ++ drop i xs ≡ drop from xs =
    ap (λ us. take (length ys) (drop from xs) ++ us) (sym rest) ∙ take-append-drop (length ys) (drop from xs) in
    let past : length (drop from xs) ≤ length (ys ++ more) =
    omega (arith, so_far.counted, length-append ys more, AllZip-long R (drop i xs) more here, length-drop i xs, length-drop from xs) in
    record {
      counted = omega (arith, so_far.counted, length-append ys more);
      each = subst (λ us. AllZip R us (ys ++ more)) (whole ∙ sym (take_all (length (ys ++ more)) (drop from xs) past))
          (zip-append R (take (length ys) (drop from xs)) (drop i xs) ys more so_far.each here);
      kept = All-append P ys more so_far.kept kept;
    }

-- past the last item all are read
pub read-all : {A B : Type 0} (R : A → B → Type 0) (P : B → Type 0) (xs : List A) (from i : ℕ) (ys : List B) → length xs ≤ i → ReadSoFar R P xs from i ys
    → AllZip R (drop from xs) ys × All P ys
read-all R P xs from i ys past so_far = (
  subst (λ us. AllZip R us ys) (take_all (length ys) (drop from xs) (omega (arith, so_far.counted, length-drop from xs))) so_far.each,
  so_far.kept,
)
