-- The grammar and what clap takes agree, where the values of options are numbers.
use Rattle.std.proofs.Common.{map, ◌≡◌, ◌∙◌, ◌≤◌, ℕ, zero, suc, refl, sym, ap, subst, arith, Bool, true, false, not, ◌&&◌, ◌||◌, ◌==◌, List, [], ◌∷◌, length, Option, Some, None}
use Rattle.std.specs.Prelude.{⊤, is_some, nat_le, slice_get}
use Rattle.std.specs.List.{AllByRecursion, list_all, list_any}
use Rattle.std.specs.Str.{bytes_eq}
use Rattle.std.proofs.lemmas.Bool.{false≢true, true≢false}
use Rattle.command_words.specs.Grammar.{Flag, Item, Name, Place, Setting, Text, are_distinct, begins_with_hyphen, is_end_of_options, is_flag, items_of, option_with_name, option_names_in, option_items, option_name, option_text, option_value, positional_words, put, same_name, value_in, word_items}
use Rattle.command_words.specs.Taken.{is_value, taken_of}
use Rattle.command_words.specs.Given.{IsGivenByItems, AreLawfulItems, are_lawful, is_on, now_of, plain_or_none}
use Rattle.command_words.specs.Numbers.{is_number, number_or_none}
use Rattle.command_words.specs.declared.given.Given.{Given}
use Rattle.command_words.specs.Grammar.{Low, High, Rack, Hold, Block, Float, Loops, Json, option_spelling}
use Rattle.command_words.proofs.Rows.{stands_is}
use Rattle.command_words.proofs.Walks.{MayWait}
use Rattle.std.proofs.lemmas.Slice.Eq.{bytes_eq-Decides}
use Rattle.knit_base.proofs.Places.{by_test}
use Rattle.command_words.proofs.Outcomes.{put_some, some_of}

-- the value of an option is a number
abbrev HasNumber : Item → Type 0
HasNumber (Flag n) = ⊤
HasNumber (Setting n value) = is_flag n ≡ false → is_number value ≡ true
HasNumber (Place word) = ⊤

-- what f gives of items that H holds of, g gives too
abbrev Keeps : (Item → Type 0) → Option (List Item) → Option (List Item) → Type 0
Keeps H o p = (items : List Item) → AllByRecursion H items → o ≡ Some items → p ≡ Some items

put_keeps : (H : Item → Type 0) (x : Item) (o p : Option (List Item)) → Keeps H o p → Keeps H (put x o) (put x p)
put_keeps H x o p k items all e =
    let parts = put_some x o items e in
    let rest : AllByRecursion H (x ∷ parts.0) = subst (AllByRecursion H) parts.2 all in
    ap (put x) (k parts.0 rest.1 parts.1) ∙ ap Some (sym parts.2)

option_keeps : (H : Item → Type 0) (o : Option Name) (v : Option Text) (f g : Option Name → Option (List Item)) → ((w : Option Name) → MayWait w → Keeps H (f w) (g w))
    → Keeps H (option_items o v f) (option_items o v g)
option_keeps H None v f g k items all e = e
option_keeps H (Some n) None f g k items all e = by_test (is_flag n)
    (λ flag. rw flag (put_keeps H (Flag n) (f None) (g None) (k None tt) items all (rw flag at e)))
    (λ flag. rw flag (k (Some n) flag items all (rw flag at e)))
option_keeps H (Some n) (Some v) f g k items all e = by_test (is_flag n)
    (λ flag. rw flag (rw flag at e))
    (λ flag. rw flag (put_keeps H (Setting n v) (f None) (g None) (k None tt) items all (rw flag at e)))

word_keeps : (H : Item → Type 0) (word : Text) (t : Option Text) (f g : Option Name → Option (List Item)) → ((w : Option Name) → MayWait w → Keeps H (f w) (g w))
    → Keeps H (word_items word t f) (word_items word t g)
word_keeps H word None f g k items all e = put_keeps H (Place word) (f None) (g None) (k None tt) items all e
word_keeps H word (Some text) f g k items all e = option_keeps H (option_with_name (option_name text)) (option_value text) f g k items all e

-- a word that doesn't begin with `-` is no flag
no_hyphen : (word : Text) → begins_with_hyphen word ≡ false → is_value word ≡ true
no_hyphen [] e = refl
no_hyphen (x ∷ xs) e = by_test (x == 45)
    (λ yes_. absurd (true≢false (rw yes_ at e)))
    (λ other. rw other refl)

-- a number that is no flag doesn't begin with `-`
plain_number : (word : Text) → is_value word ≡ true → is_number word ≡ true → begins_with_hyphen word ≡ false
plain_number [] v e = refl
plain_number (x ∷ xs) v e = by_test (x == 45) (λ hyphen. absurd (go x xs hyphen v e)) (λ other. rw other refl)
  where
    second : (y : ℕ) (ys : List ℕ) (b : Bool) → (y == 45) ≡ b → is_value (45 ∷ y ∷ ys) ≡ true → ⊥
    second y ys false f value = false≢true (rw f at value)
    second y [] true f value = false≢true (rw f at value)
    second y (z ∷ zs) true f value = false≢true (rw f at value)

    first : (ys : List ℕ) → is_value (45 ∷ ys) ≡ true → is_number (45 ∷ ys) ≡ true → ⊥
    first [] value number = false≢true number
    first (y ∷ ys) value number = second y ys (y == 45) refl value

    go : (x : ℕ) (xs : List ℕ) → (x == 45) ≡ true → is_value (x ∷ xs) ≡ true → is_number (x ∷ xs) ≡ true → ⊥
    go x xs hyphen value number =
        let same : x ≡ 45 = grind (arith, hyphen) in
        first xs (subst (λ k. is_value (k ∷ xs) ≡ true) same value) (subst (λ k. is_number (k ∷ xs) ≡ true) same number)

-- what the grammar reads, clap takes
pub strict_lax : (words : List Text) (waiting : Option Name) → MayWait waiting → Keeps (λ x. ⊤) (items_of waiting words) (taken_of waiting words)
strict_lax [] None may items all e = e
strict_lax [] (Some n) may items all e = e
strict_lax (word ∷ words) None may items all e = by_test (is_end_of_options (option_text word))
    (λ end. rw end (rw end at e))
    (λ more. rw more (word_keeps (λ x. ⊤) word (option_text word) (λ w. items_of w words) (λ w. taken_of w words) (strict_lax words) items all (rw more at e)))
strict_lax (word ∷ words) (Some n) may items all e = by_test (begins_with_hyphen word)
    (λ hyphen. absurd (some_of items (sym (rw hyphen at e))))
    (λ plain. rw (no_hyphen word plain) (put_keeps (λ x. ⊤) (Setting n word) (items_of None words) (taken_of None words) (strict_lax words None tt) items all (rw plain at e)))

-- what clap takes, the grammar reads, where the values are numbers
pub lax_strict : (words : List Text) (waiting : Option Name) → MayWait waiting → Keeps HasNumber (taken_of waiting words) (items_of waiting words)
lax_strict [] None may items all e = e
lax_strict [] (Some n) may items all e = e
lax_strict (word ∷ words) None may items all e = by_test (is_end_of_options (option_text word))
    (λ end. rw end (rw end at e))
    (λ more. rw more (word_keeps HasNumber word (option_text word) (λ w. taken_of w words) (λ w. items_of w words) (lax_strict words) items all (rw more at e)))
lax_strict (word ∷ words) (Some n) may items all e = by_test (is_value word)
    (λ value.
    let e2 : put (Setting n word) (taken_of None words) ≡ Some items = rw value at e in
    let parts = put_some (Setting n word) (taken_of None words) items e2 in
    let rest : AllByRecursion HasNumber (Setting n word ∷ parts.0) = subst (AllByRecursion HasNumber) parts.2 all in
    rw (plain_number word value (rest.0 may)) (put_keeps HasNumber (Setting n word) (taken_of None words) (items_of None words) (lax_strict words None tt) items all e2))
    (λ no_value. absurd (some_of items (sym (rw no_value at e))))

-- ---- the test

same_self : (n : Name) → same_name n n ≡ true
same_self n = (bytes_eq-Decides (option_spelling n) (option_spelling n)).1 refl

-- a name that stands at the head doesn't stand again
not_again : (m n : Name) (ns : List Name) → same_name m n ≡ true → list_any (same_name m) ns ≡ false → list_any (λ k. same_name k n) ns ≡ false
not_again m n [] same none = refl
not_again m n (k ∷ ns) same none = by_test (same_name k n)
    (λ here.
    let mn : option_spelling m ≡ option_spelling n = (bytes_eq-Decides (option_spelling m) (option_spelling n)).0 same in
    let kn : option_spelling k ≡ option_spelling n = (bytes_eq-Decides (option_spelling k) (option_spelling n)).0 here in
    let mk : same_name m k ≡ true = (bytes_eq-Decides (option_spelling m) (option_spelling k)).1 (mn ∙ sym kn) in
    absurd (true≢false (rw mk at none)))
    (λ other. rw other (not_again m n ns same (rest (same_name m k) (list_any (same_name m) ns) none)))
  where
    rest : (a b : Bool) → (a || b) ≡ false → b ≡ false
    rest true b e = absurd (true≢false e)
    rest false b e = e

none_of : (o : Option Text) → is_some o ≡ false → number_or_none o ≡ true
none_of None e = refl
none_of (Some x) e = absurd (true≢false e)

both_of : (a b : Bool) → (a && b) ≡ true → (a ≡ true) × (b ≡ true)
both_of true b e = (refl, e)
both_of false b e = absurd (false≢true e)

not_of : (b : Bool) → not b ≡ true → b ≡ false
not_of true e = absurd (false≢true e)
not_of false e = refl

-- where the head names m, the numbers of the rest are those of the whole
numbers_after : (m : Name) (x : Item) (xs : List Item) → ((n : Name) → value_in n (x ∷ xs) ≡ Rattle.std.specs.Prelude.if◌then◌else◌ (same_name m n) (value_in m (x ∷ [])) (value_in n xs))
    → list_any (same_name m) (option_names_in xs) ≡ false
    → ((n : Name) → is_flag n ≡ false → number_or_none (value_in n (x ∷ xs)) ≡ true) → (n : Name) → is_flag n ≡ false → number_or_none (value_in n xs) ≡ true
numbers_after m x xs is fresh h n flag = by_test (same_name m n)
    (λ same. none_of (value_in n xs) (sym (stands_is n xs) ∙ not_again m n (option_names_in xs) same fresh))
    (λ other.
    let step : Rattle.std.specs.Prelude.if◌then◌else◌ (same_name m n) (value_in m (x ∷ [])) (value_in n xs) ≡ value_in n xs = rw other refl in
    ap number_or_none (sym (is n ∙ step)) ∙ h n flag)

all_numbers : (items : List Item) → are_distinct (option_names_in items) ≡ true → ((n : Name) → is_flag n ≡ false → number_or_none (value_in n items) ≡ true) → AllByRecursion HasNumber items
all_numbers [] distinct h = tt
all_numbers (Place w ∷ xs) distinct h = (tt, all_numbers xs distinct h)
all_numbers (Flag m ∷ xs) distinct h =
    let parts = both_of (not (list_any (same_name m) (option_names_in xs))) (are_distinct (option_names_in xs)) distinct in
    (tt, all_numbers xs parts.1 (numbers_after m (Flag m) xs (λ n. rw (same_self m) refl) (not_of _ parts.0) h))
all_numbers (Setting m v ∷ xs) distinct h =
    let parts = both_of (not (list_any (same_name m) (option_names_in xs))) (are_distinct (option_names_in xs)) distinct in
    ((λ flag. rw (same_self m) at (h m flag)), all_numbers xs parts.1 (numbers_after m (Setting m v) xs (λ n. rw (same_self m) refl) (not_of _ parts.0) h))

plain_places : (ps : List Text) → length ps ≤ 3 → plain_or_none (slice_get ps 0) ≡ true → plain_or_none (slice_get ps 1) ≡ true → plain_or_none (slice_get ps 2) ≡ true
    → list_any begins_with_hyphen ps ≡ false
plain_places [] few a b c = refl
plain_places (p ∷ []) few a b c = rw (not_of _ a) refl
plain_places (p ∷ q ∷ []) few a b c = rw (not_of _ a, not_of _ b) refl
plain_places (p ∷ q ∷ r ∷ []) few a b c = rw (not_of _ a, not_of _ b, not_of _ c) refl
plain_places (p ∷ q ∷ r ∷ s ∷ ps) few a b c = absurd (omega (arith, few))

place_plain : (ps : List Text) (i : ℕ) → list_any begins_with_hyphen ps ≡ false → plain_or_none (slice_get ps i) ≡ true
place_plain [] zero none = refl
place_plain [] (suc i) none = refl
place_plain (p ∷ ps) zero none = by_test (begins_with_hyphen p) (λ bad. absurd (true≢false (rw bad at none))) (λ good. rw good refl)
place_plain (p ∷ ps) (suc i) none = by_test (begins_with_hyphen p) (λ bad. absurd (true≢false (rw bad at none))) (λ good. place_plain ps i (rw good at none))

-- the test passes exactly where the items are lawful
pub lawful_from : (items : List Item) (g : Given) → are_distinct (option_names_in items) ≡ true → length (positional_words items) ≤ 3 → IsGivenByItems items g → are_lawful g ≡ true → AreLawfulItems items
lawful_from items g distinct few is test =
    let low = both_of (number_or_none (now_of g.low)) _ test in
    let high = both_of (number_or_none (now_of g.high)) _ low.1 in
    let rack = both_of (number_or_none (now_of g.rack)) _ high.1 in
    let hold = both_of (number_or_none (now_of g.hold)) _ rack.1 in
    let block = both_of (number_or_none (now_of g.block)) _ hold.1 in
    let float = both_of (number_or_none (now_of g.float)) _ block.1 in
    let one = both_of (plain_or_none (now_of g.first)) _ float.1 in
    let two = both_of (plain_or_none (now_of g.second)) _ one.1 in
    record {
      fit = record {
        distinct = distinct;
        few = few;
        plain = plain_places (positional_words items) few (ap plain_or_none (sym is.first) ∙ one.0) (ap plain_or_none (sym is.second) ∙ two.0) (ap plain_or_none (sym is.third) ∙ two.1);
      };
      numbers = λ n flag. go n flag (ap number_or_none (sym is.low) ∙ low.0) (ap number_or_none (sym is.high) ∙ high.0) (ap number_or_none (sym is.rack) ∙ rack.0)
          (ap number_or_none (sym is.hold) ∙ hold.0) (ap number_or_none (sym is.block) ∙ block.0) (ap number_or_none (sym is.float) ∙ float.0);
    }
  where
    go : (n : Name) → is_flag n ≡ false → number_or_none (value_in Low items) ≡ true → number_or_none (value_in High items) ≡ true → number_or_none (value_in Rack items) ≡ true
        → number_or_none (value_in Hold items) ≡ true → number_or_none (value_in Block items) ≡ true → number_or_none (value_in Float items) ≡ true → number_or_none (value_in n items) ≡ true
    go Low flag a b c d e f = a
    go High flag a b c d e f = b
    go Rack flag a b c d e f = c
    go Hold flag a b c d e f = d
    go Block flag a b c d e f = e
    go Float flag a b c d e f = f
    go Loops flag a b c d e f = absurd (true≢false flag)
    go Json flag a b c d e f = absurd (true≢false flag)

-- lawful items pass the test
pub test_from : (items : List Item) (g : Given) → IsGivenByItems items g → AreLawfulItems items → are_lawful g ≡ true
test_from items g is lawful =
    rw (
      ap number_or_none is.low ∙ lawful.numbers Low refl,
      ap number_or_none is.high ∙ lawful.numbers High refl,
      ap number_or_none is.rack ∙ lawful.numbers Rack refl,
      ap number_or_none is.hold ∙ lawful.numbers Hold refl,
      ap number_or_none is.block ∙ lawful.numbers Block refl,
      ap number_or_none is.float ∙ lawful.numbers Float refl,
      ap plain_or_none is.first ∙ place_plain (positional_words items) 0 lawful.fit.plain,
      ap plain_or_none is.second ∙ place_plain (positional_words items) 1 lawful.fit.plain,
      ap plain_or_none is.third ∙ place_plain (positional_words items) 2 lawful.fit.plain,
    ) refl

every : (items : List Item) → AllByRecursion (λ x. ⊤) items
every [] = tt
every (x ∷ xs) = (tt, every xs)

-- what clap found of lawful words is what the grammar reads
pub read_from : (words : List Text) (items : List Item) → taken_of None words ≡ Some items → AreLawfulItems items → items_of None words ≡ Some items
read_from words items is lawful = lax_strict words None tt items (all_numbers items lawful.fit.distinct lawful.numbers) is

-- what the grammar reads is what clap found
pub taken_from : (words : List Text) (items : List Item) → items_of None words ≡ Some items → taken_of None words ≡ Some items
taken_from words items is = strict_lax words None tt items (every items) is

-- ---- flags

-- only an option has a value
abbrev OptionOnly : Item → Type 0
OptionOnly (Flag n) = ⊤
OptionOnly (Setting n value) = is_flag n ≡ false
OptionOnly (Place word) = ⊤

abbrev Gives : Option (List Item) → Type 0
Gives o = (items : List Item) → o ≡ Some items → AllByRecursion OptionOnly items

put_gives : (x : Item) (o : Option (List Item)) → OptionOnly x → Gives o → Gives (put x o)
put_gives x o only g items e =
    let parts = put_some x o items e in
    let rest : AllByRecursion OptionOnly (x ∷ parts.0) = (only, g parts.0 parts.1) in
    subst (AllByRecursion OptionOnly) (sym parts.2) rest

none_gives : Gives None
none_gives items e = absurd (some_of items (sym e))

option_gives : (o : Option Name) (v : Option Text) (f : Option Name → Option (List Item)) → ((w : Option Name) → MayWait w → Gives (f w)) → Gives (option_items o v f)
option_gives None v f g items e = none_gives items e
option_gives (Some n) None f g items e = by_test (is_flag n)
    (λ flag. put_gives (Flag n) (f None) tt (g None tt) items (rw flag at e))
    (λ flag. g (Some n) flag items (rw flag at e))
option_gives (Some n) (Some v) f g items e = by_test (is_flag n)
    (λ flag. none_gives items (rw flag at e))
    (λ flag. put_gives (Setting n v) (f None) flag (g None tt) items (rw flag at e))

word_gives : (word : Text) (t : Option Text) (f : Option Name → Option (List Item)) → ((w : Option Name) → MayWait w → Gives (f w)) → Gives (word_items word t f)
word_gives word None f g items e = put_gives (Place word) (f None) tt (g None tt) items e
word_gives word (Some text) f g items e = option_gives (option_with_name (option_name text)) (option_value text) f g items e

all_places : (words : List Text) → AllByRecursion OptionOnly (map Place words)
all_places [] = tt
all_places (word ∷ words) = (tt, all_places words)

lax_gives : (words : List Text) (waiting : Option Name) → MayWait waiting → Gives (taken_of waiting words)
lax_gives [] None may items e = subst (AllByRecursion OptionOnly) (ap (λ o. Rattle.std.specs.Prelude.unwrap_or o []) e) tt
lax_gives [] (Some n) may items e = none_gives items e
lax_gives (word ∷ words) None may items e = by_test (is_end_of_options (option_text word))
    (λ end.
    let same : Some (map Place words) ≡ Some items = rw end at e in
    subst (AllByRecursion OptionOnly) (ap (λ o. Rattle.std.specs.Prelude.unwrap_or o []) same) (all_places words))
    (λ more. word_gives word (option_text word) (λ w. taken_of w words) (lax_gives words) items (rw more at e))
lax_gives (word ∷ words) (Some n) may items e = by_test (is_value word)
    (λ value. put_gives (Setting n word) (taken_of None words) may (lax_gives words None tt) items (rw value at e))
    (λ other. none_gives items (rw other at e))

-- a flag that stands is on
flag_is_on : (n : Name) (items : List Item) → is_flag n ≡ true → AllByRecursion OptionOnly items → is_on (value_in n items) ≡ is_some (value_in n items)
flag_is_on n [] flag all = refl
flag_is_on n (Place w ∷ xs) flag all = flag_is_on n xs flag all.1
flag_is_on n (Flag m ∷ xs) flag all = by_test (same_name m n) (λ same. rw same refl) (λ other. rw other (flag_is_on n xs flag all.1))
flag_is_on n (Setting m v ∷ xs) flag all = by_test (same_name m n)
    (λ same.
    let spelt : option_spelling m ≡ option_spelling n = (bytes_eq-Decides (option_spelling m) (option_spelling n)).0 same in
    let name : option_with_name (option_spelling m) ≡ option_with_name (option_spelling n) = ap option_with_name spelt in
    let one : Some m ≡ Some n = sym (named m) ∙ name ∙ named n in
    let clash : is_flag m ≡ is_flag n = ap (λ o. is_flag (Rattle.std.specs.Prelude.unwrap_or o m)) one in
    absurd (true≢false (sym flag ∙ sym clash ∙ all.0)))
    (λ other. rw other (flag_is_on n xs flag all.1))
  where
    named : (k : Name) → option_with_name (option_spelling k) ≡ Some k
    named Low = refl
    named High = refl
    named Rack = refl
    named Hold = refl
    named Block = refl
    named Float = refl
    named Loops = refl
    named Json = refl

-- a flag is on where it stands
pub flag_stands_is : (words : List Text) (items : List Item) (n : Name) → taken_of None words ≡ Some items → is_flag n ≡ true → is_on (value_in n items) ≡ is_some (value_in n items)
flag_stands_is words items n is flag = flag_is_on n items flag (lax_gives words None tt items is)
