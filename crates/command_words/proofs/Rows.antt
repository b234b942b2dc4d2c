-- What the rows of the walk keep of the items.
use Rattle.std.proofs.Common.{◌≡◌, ◌∙◌, refl, ap, arith, Bool, true, false, cond, not, List, [], ◌∷◌, ◌++◌, length, ◌&&◌, ◌||◌, Option, Some, None, option_map, append-nil}
use Rattle.std.specs.Prelude.{is_some, slice_get}
use Rattle.std.specs.Str.{bytes_eq}
use Rattle.std.specs.List.{list_any}
use Rattle.std.proofs.lemmas.Bool.{false≢true, true≢false}
use Rattle.std.proofs.lemmas.List.Folds.{list_any-append}
use Rattle.clap.specs.Walk.{Row, all_of, at_row, has_row, with_values, without, more_values}
use Rattle.clap.specs.declared.builder.value_parser.Reading.{Reading}
use Rattle.clap.specs.declared.parser.matches.ValueSource.TheVariants.{CommandLine}
use Rattle.command_words.specs.Grammar.{Name, Text, Item, Flag, Setting, Place, are_distinct, option_names_in, positional_words, same_name, option_spelling, value_in, Low, High, Rack, Hold, Block, Float, Loops, Json}
use Rattle.command_words.proofs.Rules.{Spot, first, second, third, spot_at, spot_id}
use Rattle.knit_base.proofs.Places.{by_test}

-- the first of the two that is there
abbrev pub or_first : {X : Type 0} → Option X → Option X → Option X
or_first None q = q
or_first (Some x) q = Some x

-- ---- rows

-- a change at an id that has no row appends what is missing
pub at_row_none : (id : Text) (change : Row → List Row) (missing rows : List Row) → has_row id rows ≡ false → at_row id change missing rows ≡ rows ++ missing
at_row_none id change missing [] none = refl
at_row_none id change missing (r ∷ rs) none = by_test (bytes_eq r.id id)
    (λ e. absurd (true≢false (rw e at none)))
    (λ e. let rest : has_row id rs ≡ false = rw e at none in rw e (ap (λ l. r ∷ l) (at_row_none id change missing rs rest)))

-- the row of an id with one value
abbrev pub row : Text → Reading → Text → Row
row id how v = record { id = id; values = v ∷ []; count = None; source = Some CommandLine; reading = how }

-- a value under an id that has no row is a row more
pub fresh_row_appends : (id : Text) (how : Reading) (v : Text) (rows : List Row) → has_row id rows ≡ false
    → with_values id how CommandLine (v ∷ []) (without id rows) ≡ rows ++ row id how v ∷ []
fresh_row_appends id how v rows none =
    let same : without id rows ≡ rows = at_row_none id (λ _. []) [] rows none ∙ append-nil rows in
    ap (with_values id how CommandLine (v ∷ [])) same ∙ at_row_none id (more_values CommandLine (v ∷ [])) (row id how v ∷ []) rows none

-- the values under an id with one row more
pub added_row : (k : Text) (rows : List Row) (r : Row) → all_of k (rows ++ r ∷ []) ≡ or_first (all_of k rows) (cond (bytes_eq r.id k) (Some r.values) None)
added_row k [] r = go (bytes_eq r.id k)
  where
    go : (b : Bool) → option_map (λ (x : Row). x.values) (cond b (Some r) None) ≡ cond b (Some r.values) None
    go true = refl
    go false = refl
added_row k (x ∷ xs) r = by_test (bytes_eq x.id k)
    (λ e. rw e refl)
    (λ e. rw e (added_row k xs r))

-- an id has a row where there are values under it
pub has_row_is : (k : Text) (rows : List Row) → has_row k rows ≡ is_some (all_of k rows)
has_row_is k [] = refl
has_row_is k (x ∷ xs) = by_test (bytes_eq x.id k)
    (λ e. rw e refl)
    (λ e. rw e (has_row_is k xs))

-- ---- items

-- the value of an option in two lists of items is that of the first that has one
pub value_in_more : (n : Name) (xs ys : List Item) → value_in n (xs ++ ys) ≡ or_first (value_in n xs) (value_in n ys)
value_in_more n [] ys = refl
value_in_more n (Flag m ∷ xs) ys = by_test (same_name m n)
    (λ e. rw e refl)
    (λ e. rw e (value_in_more n xs ys))
value_in_more n (Setting m v ∷ xs) ys = by_test (same_name m n)
    (λ e. rw e refl)
    (λ e. rw e (value_in_more n xs ys))
value_in_more n (Place w ∷ xs) ys = value_in_more n xs ys

-- the names of two lists of items, one after the other
pub names_in_more : (xs ys : List Item) → option_names_in (xs ++ ys) ≡ option_names_in xs ++ option_names_in ys
names_in_more [] ys = refl
names_in_more (Flag m ∷ xs) ys = ap (λ l. m ∷ l) (names_in_more xs ys)
names_in_more (Setting m v ∷ xs) ys = ap (λ l. m ∷ l) (names_in_more xs ys)
names_in_more (Place w ∷ xs) ys = names_in_more xs ys

-- the positional words of two lists of items, one after the other
pub places_in_more : (xs ys : List Item) → positional_words (xs ++ ys) ≡ positional_words xs ++ positional_words ys
places_in_more [] ys = refl
places_in_more (Flag m ∷ xs) ys = places_in_more xs ys
places_in_more (Setting m v ∷ xs) ys = places_in_more xs ys
places_in_more (Place w ∷ xs) ys = ap (λ l. w ∷ l) (places_in_more xs ys)

-- the name stands among the items where it has a value
pub stands_is : (n : Name) (xs : List Item) → list_any (λ m. same_name m n) (option_names_in xs) ≡ is_some (value_in n xs)
stands_is n [] = refl
stands_is n (Flag m ∷ xs) = by_test (same_name m n)
    (λ e. rw e refl)
    (λ e. rw e (stands_is n xs))
stands_is n (Setting m v ∷ xs) = by_test (same_name m n)
    (λ e. rw e refl)
    (λ e. rw e (stands_is n xs))
stands_is n (Place w ∷ xs) = stands_is n xs

-- one of the two holds where the second does
pub or_right : (a b : Bool) → b ≡ true → (a || b) ≡ true
or_right true b e = refl
or_right false b e = e

and_right : (a b : Bool) → b ≡ false → (a && b) ≡ false
and_right true b e = e
and_right false b e = refl

-- each of the two holds where both do
pub both_hold : (a b : Bool) → (a && b) ≡ true → (a ≡ true) × (b ≡ true)
both_hold true b e = (refl, e)
both_hold false b e = absurd (false≢true e)

-- a name that stands may not stand again, and one that doesn't may
pub name_twice_not_distinct : (n : Name) (ns ms : List Name) → list_any (λ m. same_name m n) ns ≡ true → are_distinct (ns ++ n ∷ ms) ≡ false
name_twice_not_distinct n [] ms e = absurd (false≢true e)
name_twice_not_distinct n (m ∷ ns) ms e = by_test (same_name m n)
    (λ same.
    let here : list_any (same_name m) (ns ++ n ∷ ms) ≡ true =
    list_any-append (same_name m) ns (n ∷ ms) ∙ or_right (list_any (same_name m) ns) _ (rw same refl) in
    rw here refl)
    (λ other. and_right (not (list_any (same_name m) (ns ++ n ∷ ms))) _ (name_twice_not_distinct n ns ms (rw other at e)))

-- a name more that doesn't stand yet leaves them distinct
pub name_once_distinct : (n : Name) (ns : List Name) → list_any (λ m. same_name m n) ns ≡ false → are_distinct ns ≡ true → are_distinct (ns ++ n ∷ []) ≡ true
name_once_distinct n [] none distinct = refl
name_once_distinct n (m ∷ ns) none distinct = by_test (same_name m n)
    (λ same. absurd (true≢false (rw same at none)))
    (λ other.
    let parts = both_hold (not (list_any (same_name m) ns)) (are_distinct ns) distinct in
    let fewer : list_any (same_name m) ns ≡ false = not_true _ parts.0 in
    let here : list_any (same_name m) (ns ++ n ∷ []) ≡ false = list_any-append (same_name m) ns (n ∷ []) ∙ rw (fewer, other) refl in
    rw here (name_once_distinct n ns (rw other at none) parts.1))
  where
    not_true : (b : Bool) → not b ≡ true → b ≡ false
    not_true true e = absurd (false≢true e)
    not_true false e = refl

-- ---- ids

-- no option has the id of a positional word
pub names_apart : (n : Name) (s : Spot) → bytes_eq (option_spelling n) (spot_id s) ≡ false
names_apart Low first = refl
names_apart Low second = refl
names_apart Low third = refl
names_apart High first = refl
names_apart High second = refl
names_apart High third = refl
names_apart Rack first = refl
names_apart Rack second = refl
names_apart Rack third = refl
names_apart Hold first = refl
names_apart Hold second = refl
names_apart Hold third = refl
names_apart Block first = refl
names_apart Float first = refl
names_apart Block second = refl
names_apart Float second = refl
names_apart Block third = refl
names_apart Float third = refl
names_apart Loops first = refl
names_apart Loops second = refl
names_apart Loops third = refl
names_apart Json first = refl
names_apart Json second = refl
names_apart Json third = refl

-- no positional word has the id of an option
pub spots_apart : (s : Spot) (n : Name) → bytes_eq (spot_id s) (option_spelling n) ≡ false
spots_apart first Low = refl
spots_apart first High = refl
spots_apart first Rack = refl
spots_apart first Hold = refl
spots_apart first Block = refl
spots_apart first Float = refl
spots_apart first Loops = refl
spots_apart first Json = refl
spots_apart second Low = refl
spots_apart second High = refl
spots_apart second Rack = refl
spots_apart second Hold = refl
spots_apart second Block = refl
spots_apart second Float = refl
spots_apart second Loops = refl
spots_apart second Json = refl
spots_apart third Low = refl
spots_apart third High = refl
spots_apart third Rack = refl
spots_apart third Hold = refl
spots_apart third Block = refl
spots_apart third Float = refl
spots_apart third Loops = refl
spots_apart third Json = refl

-- the positional words by their ids, with one more
pub place_added : (ps : List Text) (s t : Spot) (w : Text) → length ps ≡ spot_at s
    → or_first (option_map (λ v. v ∷ []) (slice_get ps (spot_at t))) (cond (bytes_eq (spot_id s) (spot_id t)) (Some (w ∷ [])) None)
    ≡ option_map (λ v. v ∷ []) (slice_get (ps ++ w ∷ []) (spot_at t))
place_added [] first first w e = refl
place_added [] first second w e = refl
place_added [] first third w e = refl
place_added [] second u w e = absurd (omega (arith, e))
place_added [] third u w e = absurd (omega (arith, e))
place_added (a ∷ []) first u w e = absurd (omega (arith, e))
place_added (a ∷ []) second first w e = refl
place_added (a ∷ []) second second w e = refl
place_added (a ∷ []) second third w e = refl
place_added (a ∷ []) third u w e = absurd (omega (arith, e))
place_added (a ∷ b ∷ []) first u w e = absurd (omega (arith, e))
place_added (a ∷ b ∷ []) second u w e = absurd (omega (arith, e))
place_added (a ∷ b ∷ []) third first w e = refl
place_added (a ∷ b ∷ []) third second w e = refl
place_added (a ∷ b ∷ []) third third w e = refl
place_added (a ∷ b ∷ c ∷ ps) first u w e = absurd (omega (arith, e))
place_added (a ∷ b ∷ c ∷ ps) second u w e = absurd (omega (arith, e))
place_added (a ∷ b ∷ c ∷ ps) third u w e = absurd (omega (arith, e))
