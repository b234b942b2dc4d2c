-- From what clap finds to what the grammar says.
use Rattle.std.proofs.Common.{◌≡◌, ◌∙◌, ◌≤◌, refl, sym, ap, arith, Bool, true, false, not, ◌&&◌, List, [], ◌∷◌, length, Option, Some, None}
use Rattle.std.specs.Prelude.{if◌then◌else◌, option_and_then, slice_get}
use Rattle.std.specs.List.{list_any}
use Rattle.std.proofs.lemmas.Bool.{false≢true, true≢false}
use Rattle.command_words.specs.declared.command.Command.{Command}
use Rattle.command_words.specs.declared.command.Request.{Request}
use Rattle.command_words.specs.declared.given.Given.{Given}
use Rattle.command_words.specs.Grammar.{Item, Name, Low, High, Rack, Hold, Block, Float, Loops, Json, Text}
use Rattle.command_words.specs.Grammar.{are_distinct, begins_with_hyphen, is_flag, items_of, option_names_in, positional_words, value_in}
use Rattle.command_words.specs.Numbers.{number_or_none}
use Rattle.command_words.specs.Given.{IsGivenByItems, AreLawfulItems, now_of, parts_given, positional_list}
use Rattle.command_words.specs.Request.{CommandLineParts, command_of, command_of_words, has_numbers, is_lawful, parts_of, request_from, request_from_parts, words_request, with_options}
use Rattle.command_words.proofs.Rows.{both_hold}
use Rattle.knit_base.proofs.Places.{by_test}
use Rattle.command_words.proofs.Outcomes.{some_of}

-- three places hold the positional words
words_given : (ws : List Text) → length ws ≤ 3 → positional_list (slice_get ws 0) (slice_get ws 1) (slice_get ws 2) ≡ ws
words_given [] few = refl
words_given (a ∷ []) few = refl
words_given (a ∷ b ∷ []) few = refl
words_given (a ∷ b ∷ c ∷ []) few = refl
words_given (a ∷ b ∷ c ∷ d ∷ ws) few = absurd (omega (arith, few))

abbrev parts : (low high rack hold block float : Option Text) (loops json : Bool) (words : List Text) → CommandLineParts
parts l h r o b f k j ws = record { low = l; high = h; rack = r; hold = o; block = b; float = f; loops = k; json = j; words = ws }

same_parts : (l l2 h h2 r r2 o o2 b b2 f f2 : Option Text) (k k2 j j2 : Bool) (ws ws2 : List Text) → l ≡ l2 → h ≡ h2 → r ≡ r2 → o ≡ o2 → b ≡ b2 → f ≡ f2 → k ≡ k2 → j ≡ j2 → ws ≡ ws2
    → parts l h r o b f k j ws ≡ parts l2 h2 r2 o2 b2 f2 k2 j2 ws2
same_parts l l2 h h2 r r2 o o2 b b2 f f2 k k2 j j2 ws ws2 e1 e2 e3 e4 e5 e6 e7 e8 e9 = rw (e1, e2, e3, e4, e5, e6, e7, e8, e9) refl

words_are : (g : Given) (ws : List Text) → length ws ≤ 3 → now_of g.first ≡ slice_get ws 0 → now_of g.second ≡ slice_get ws 1 → now_of g.third ≡ slice_get ws 2
    → positional_list (now_of g.first) (now_of g.second) (now_of g.third) ≡ ws
words_are g ws few first second third =
    ap (λ o. positional_list o (now_of g.second) (now_of g.third)) first
    ∙ ap (λ o. positional_list (slice_get ws 0) o (now_of g.third)) second
    ∙ ap (λ o. positional_list (slice_get ws 0) (slice_get ws 1) o) third
    ∙ words_given ws few

parts_are : (items : List Item) (g : Given) → length (positional_words items) ≤ 3 → IsGivenByItems items g → parts_given g ≡ parts_of items
parts_are items g few is =
    same_parts _ _ _ _ _ _ _ _ _ _ _ _ _ _ _ _ _ _ is.low is.high is.rack is.hold is.block is.float is.loops is.json
    (words_are g (positional_words items) few is.first is.second is.third)

-- the test of the items and its facts
pub lawful_is : (items : List Item) → AreLawfulItems items → is_lawful items ≡ true
lawful_is items lawful =
    rw (
      lawful.fit.distinct,
      lawful.fit.plain,
      lawful.numbers Low refl,
      lawful.numbers High refl,
      lawful.numbers Rack refl,
      lawful.numbers Hold refl,
      lawful.numbers Block refl,
      lawful.numbers Float refl,
    ) refl

not_true : (b : Bool) → not b ≡ true → b ≡ false
not_true true e = absurd (false≢true e)
not_true false e = refl

record Six (a b c d e f : Bool) : Type 0 where
  first : a ≡ true
  second : b ≡ true
  third : c ≡ true
  fourth : d ≡ true
  fifth : e ≡ true
  sixth : f ≡ true

six : (a b c d e f : Bool) → (a && (b && (c && (d && (e && (f && true)))))) ≡ true → Six a b c d e f
six a b c d e f all =
    let one = both_hold a _ all in
    let two = both_hold b _ one.1 in
    let three = both_hold c _ two.1 in
    let four = both_hold d _ three.1 in
    let five = both_hold e _ four.1 in
    record { first = one.0; second = two.0; third = three.0; fourth = four.0; fifth = five.0; sixth = (both_hold f _ five.1).0 }

all_numbers : (items : List Item) → has_numbers (parts_of items) ≡ true → (n : Name) → is_flag n ≡ false → number_or_none (value_in n items) ≡ true
all_numbers items e n flag = go (six _ _ _ _ _ _ e) n flag
  where
    go : Six (number_or_none (value_in Low items)) (number_or_none (value_in High items)) (number_or_none (value_in Rack items))
        (number_or_none (value_in Hold items)) (number_or_none (value_in Block items)) (number_or_none (value_in Float items))
        → (n : Name) → is_flag n ≡ false → number_or_none (value_in n items) ≡ true
    go all Low flag = all.first
    go all High flag = all.second
    go all Rack flag = all.third
    go all Hold flag = all.fourth
    go all Block flag = all.fifth
    go all Float flag = all.sixth
    go all Loops flag = absurd (true≢false flag)
    go all Json flag = absurd (true≢false flag)

lawful_of : (items : List Item) → is_lawful items ≡ true → length (positional_words items) ≤ 3 → AreLawfulItems items
lawful_of items e few =
    let outer = both_hold (are_distinct (option_names_in items)) _ e in
    let inner = both_hold (not (list_any begins_with_hyphen (positional_words items))) _ outer.1 in
    record {
      fit = record { distinct = outer.0; few = few; plain = not_true _ inner.0 };
      numbers = all_numbers items inner.1;
    }

-- a command has at most three words
few_words : (loops json : Bool) (ws : List Text) (c : Command) → command_of_words loops json ws ≡ Some c → length ws ≤ 3
few_words loops json [] c e = omega arith
few_words loops json (a ∷ []) c e = omega arith
few_words loops json (a ∷ b ∷ []) c e = omega arith
few_words loops json (a ∷ b ∷ d ∷ []) c e = omega arith
few_words loops json (a ∷ b ∷ d ∷ f ∷ ws) c e = absurd (some_of c (sym e))

some_before : {X Y : Type 0} (f : X → Option Y) (o : Option X) (y : Y) → option_and_then f o ≡ Some y → (x : X) × (o ≡ Some x)
some_before f None y e = absurd (some_of y (sym e))
some_before f (Some x) y e = (x, refl)

-- the items of a request are lawful
lawful_when : (items : List Item) (r : Request) → request_from items ≡ Some r → AreLawfulItems items
lawful_when items r e = by_test (is_lawful items)
    (λ lawful.
    let asked : request_from_parts (parts_of items) ≡ Some r = rw lawful at e in
    let command = some_before (with_options (parts_of items)) (command_of (parts_of items)) r asked in
    lawful_of items lawful (few_words _ _ (positional_words items) command.0 command.1))
    (λ other. absurd (some_of r (sym (rw other at e))))

-- what is found asks for what the words ask for
pub asked_is : (words : List Text) (items : List Item) (g : Given) → items_of None words ≡ Some items → AreLawfulItems items → IsGivenByItems items g
    → words_request words ≡ request_from_parts (parts_given g)
asked_is words items g is lawful given =
    ap (option_and_then request_from) is
    ∙ ap (λ b. if b then request_from_parts (parts_of items) else None) (lawful_is items lawful)
    ∙ ap request_from_parts (sym (parts_are items g lawful.fit.few given))

-- words without lawful items ask for nothing
pub nothing_asked : (words : List Text) → ((items : List Item) → items_of None words ≡ Some items → AreLawfulItems items → ⊥) → words_request words ≡ None
nothing_asked words never = go (items_of None words) refl
  where
    none : (items : List Item) → items_of None words ≡ Some items → (o : Option Request) → request_from items ≡ o → o ≡ None
    none items is None e = refl
    none items is (Some r) e = absurd (never items is (lawful_when items r e))

    go : (o : Option (List Item)) → items_of None words ≡ o → option_and_then request_from o ≡ None
    go None is = refl
    go (Some items) is = none items is (request_from items) refl
