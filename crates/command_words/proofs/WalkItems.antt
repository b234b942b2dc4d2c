-- The walk keeps the items that it has read.
use Rattle.std.proofs.lemmas.List.{length-append}
use Rattle.std.proofs.Common.{◌≡◌, ◌∙◌, ◌+◌, ℕ, refl, sym, ap, ap₂, Bool, true, false, cond, List, [], ◌∷◌, ◌++◌, length, Option, Some, None, option_map, append-nil}
use Rattle.std.specs.Prelude.{codes, is_some, slice_get}
use Rattle.std.specs.Str.{bytes_eq}
use Rattle.std.proofs.lemmas.Bool.{false≢true, true≢false}
use Rattle.clap.specs.Walk.{Held, Row, all_of, has_row, settled, used}
use Rattle.clap.specs.Faults.{repeat_fault, settle_fault}
use Rattle.clap.specs.declared.builder.value_parser.Reading.{Reading}
use Rattle.command_words.specs.Grammar.{Name, Text, Item, Flag, Setting, Place, are_distinct, is_flag, option_names_in, positional_words, same_name, option_spelling, value_in, Low, High, Rack, Hold, Block, Float, Loops, Json}
use Rattle.command_words.proofs.Rules.{Spot, first, second, third, rule_of_option, command_shape, spot_at, spot_id, spot_rule}
use Rattle.command_words.proofs.Rows.{added_row, fresh_row_appends, has_row_is, names_apart, names_in_more, name_once_distinct, or_first, place_added, places_in_more, row, spots_apart, stands_is, value_in_more}
use Rattle.command_words.proofs.Turns.{next_place}

-- the one value, where there is one
abbrev pub single_value : Option Text → Option (List Text)
single_value = option_map (λ v. v ∷ [])

-- how many positional words stand before this place
abbrev pub count_at : Option Spot → ℕ
count_at (Some s) = spot_at s
count_at None = 3

-- the walk has kept these items, settled, and stands at this place
pub record Stands (items : List Item) (h : Held) (place : Option Spot) : Type 0 where
  pub sound : settle_fault command_shape.rules false h ≡ []
  pub skip : h.skip ≡ 0
  pub named : (n : Name) → all_of (option_spelling n) (settled command_shape.rules h).rows ≡ single_value (value_in n items)
  pub spots : (s : Spot) → all_of (spot_id s) (settled command_shape.rules h).rows ≡ single_value (slice_get (positional_words items) (spot_at s))
  pub distinct : are_distinct (option_names_in items) ≡ true
  pub count : length (positional_words items) ≡ count_at place

-- x stands for the option n with this value
pub record IsNamed (x : Item) (n : Name) (v : Text) : Type 0 where
  pub names : option_names_in (x ∷ []) ≡ n ∷ []
  pub places : positional_words (x ∷ []) ≡ []
  pub value : (m : Name) → value_in m (x ∷ []) ≡ cond (same_name n m) (Some v) None

-- a flag has the value `true`
pub flag_named : (n : Name) → IsNamed (Flag n) n (codes "true")
flag_named n = record { names = refl; places = refl; value = λ m. refl }

-- an option has its value
pub setting_named : (n : Name) (v : Text) → IsNamed (Setting n v) n v
setting_named n v = record { names = refl; places = refl; value = λ m. refl }

single_is_some : (o : Option Text) → is_some (single_value o) ≡ is_some o
single_is_some None = refl
single_is_some (Some x) = refl

-- a name has a row where it stands
pub name_row : (items : List Item) (h : Held) (place : Option Spot) (n : Name) → Stands items h place → has_row (option_spelling n) (settled command_shape.rules h).rows ≡ is_some (value_in n items)
name_row items h place n s = has_row_is (option_spelling n) _ ∙ ap is_some (s.named n) ∙ single_is_some (value_in n items)

single_first : (o p : Option Text) → or_first (single_value o) (single_value p) ≡ single_value (or_first o p)
single_first None p = refl
single_first (Some x) p = refl

single_if : (b : Bool) (v : Text) → cond b (Some (v ∷ [])) None ≡ single_value (cond b (Some v) None)
single_if true v = refl
single_if false v = refl

none_first : {X : Type 0} (o : Option X) → or_first o None ≡ o
none_first None = refl
none_first (Some x) = refl

-- one more option, which is not there yet
pub named_stands : (items : List Item) (h after : Held) (place : Option Spot) (n : Name) (how : Reading) (v : Text) (x : Item) → Stands items h place → IsNamed x n v
    → value_in n items ≡ None → settle_fault command_shape.rules false after ≡ [] → after.skip ≡ 0
    → (settled command_shape.rules after).rows ≡ (settled command_shape.rules h).rows ++ row (option_spelling n) how v ∷ [] → Stands (items ++ x ∷ []) after place
named_stands items h after place n how v x s is none sound skip rows = record {
  sound = sound;
  skip = skip;
  named = λ m. ap (all_of (option_spelling m)) rows ∙ added_row (option_spelling m) ((settled command_shape.rules h).rows) (row (option_spelling n) how v)
      ∙ ap₂ or_first (s.named m) (single_if (same_name n m) v ∙ ap single_value (sym (is.value m)))
      ∙ single_first (value_in m items) (value_in m (x ∷ [])) ∙ ap single_value (sym (value_in_more m items (x ∷ [])));
  spots = λ t. ap (all_of (spot_id t)) rows ∙ added_row (spot_id t) ((settled command_shape.rules h).rows) (row (option_spelling n) how v)
      ∙ ap₂ or_first (s.spots t) (ap (λ b. cond b (Some (v ∷ [])) None) (names_apart n t))
      ∙ none_first _ ∙ ap (λ l. single_value (slice_get l (spot_at t))) (sym same_places);
  distinct = ap are_distinct (names_in_more items (x ∷ []) ∙ ap (λ l. option_names_in items ++ l) is.names)
      ∙ name_once_distinct n (option_names_in items) (stands_is n items ∙ ap is_some none) s.distinct;
  count = ap length same_places ∙ s.count;
}
  where
    same_places : positional_words (items ++ x ∷ []) ≡ positional_words items
    same_places = places_in_more items (x ∷ []) ∙ ap (λ l. positional_words items ++ l) is.places ∙ append-nil _

-- one more positional word
pub place_stands : (items : List Item) (h after : Held) (spot : Spot) (how : Reading) (w : Text) → Stands items h (Some spot)
    → settle_fault command_shape.rules false after ≡ [] → after.skip ≡ 0
    → (settled command_shape.rules after).rows ≡ (settled command_shape.rules h).rows ++ row (spot_id spot) how w ∷ [] → Stands (items ++ Place w ∷ []) after (next_place spot)
place_stands items h after spot how w s sound skip rows = record {
  sound = sound;
  skip = skip;
  named = λ m. ap (all_of (option_spelling m)) rows ∙ added_row (option_spelling m) ((settled command_shape.rules h).rows) (row (spot_id spot) how w)
      ∙ ap₂ or_first (s.named m) (ap (λ b. cond b (Some (w ∷ [])) None) (spots_apart spot m))
      ∙ none_first _ ∙ ap single_value (sym (value_in_more m items (Place w ∷ []) ∙ none_first _));
  spots = λ t. ap (all_of (spot_id t)) rows ∙ added_row (spot_id t) ((settled command_shape.rules h).rows) (row (spot_id spot) how w)
      ∙ ap (λ o. or_first o (cond (bytes_eq (spot_id spot) (spot_id t)) (Some (w ∷ [])) None)) (s.spots t)
      ∙ place_added (positional_words items) spot t w s.count ∙ ap (λ l. single_value (slice_get l (spot_at t))) (sym (places_in_more items (Place w ∷ [])));
  distinct = ap are_distinct (names_in_more items (Place w ∷ []) ∙ append-nil _) ∙ s.distinct;
  count = ap length (places_in_more items (Place w ∷ [])) ∙ counted (positional_words items) spot s.count;
}
  where
    counted : (ps : List Text) (t : Spot) → length ps ≡ spot_at t → length (ps ++ w ∷ []) ≡ count_at (next_place t)
    counted ps first e = length-append ps (w ∷ []) ∙ ap (λ k. k + 1) e
    counted ps second e = length-append ps (w ∷ []) ∙ ap (λ k. k + 1) e
    counted ps third e = length-append ps (w ∷ []) ∙ ap (λ k. k + 1) e

-- ---- the rows that a use adds

-- an id without a row is no repetition
pub no_repeat : (id : Text) (rows : List Row) → has_row id rows ≡ false → repeat_fault false id rows ≡ []
no_repeat id rows none = rw none refl

-- the value of an option without a row isn't at fault
pub option_used : (n : Name) (v : Text) (rows : List Row) → is_flag n ≡ false → has_row (option_spelling n) rows ≡ false
    → (how : Reading) × (used (rule_of_option n) (v ∷ []) rows ≡ rows ++ row (option_spelling n) how v ∷ [])
option_used Low v rows flag none = (_, fresh_row_appends _ _ v rows none)
option_used High v rows flag none = (_, fresh_row_appends _ _ v rows none)
option_used Rack v rows flag none = (_, fresh_row_appends _ _ v rows none)
option_used Hold v rows flag none = (_, fresh_row_appends _ _ v rows none)
option_used Block v rows flag none = (_, fresh_row_appends _ _ v rows none)
option_used Float v rows flag none = (_, fresh_row_appends _ _ v rows none)
option_used Loops v rows flag none = absurd (true≢false flag)
option_used Json v rows flag none = absurd (true≢false flag)

-- nor is a flag without a row
pub flag_used : (n : Name) (rows : List Row) → is_flag n ≡ true → has_row (option_spelling n) rows ≡ false
    → (how : Reading) × (used (rule_of_option n) [] rows ≡ rows ++ row (option_spelling n) how (codes "true") ∷ [])
flag_used Loops rows flag none = (_, fresh_row_appends _ _ (codes "true") rows none)
flag_used Json rows flag none = (_, fresh_row_appends _ _ (codes "true") rows none)
flag_used Low rows flag none = absurd (false≢true flag)
flag_used High rows flag none = absurd (false≢true flag)
flag_used Rack rows flag none = absurd (false≢true flag)
flag_used Hold rows flag none = absurd (false≢true flag)
flag_used Block rows flag none = absurd (false≢true flag)
flag_used Float rows flag none = absurd (false≢true flag)

-- nor is a positional word without a row
pub spot_used : (s : Spot) (w : Text) (rows : List Row) → has_row (spot_id s) rows ≡ false
    → (how : Reading) × (used (spot_rule s) (w ∷ []) rows ≡ rows ++ row (spot_id s) how w ∷ [])
spot_used first w rows none = (_, fresh_row_appends _ _ w rows none)
spot_used second w rows none = (_, fresh_row_appends _ _ w rows none)
spot_used third w rows none = (_, fresh_row_appends _ _ w rows none)
