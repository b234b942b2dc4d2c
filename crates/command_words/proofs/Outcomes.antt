-- What the walk makes of any words: it takes them where they spell items that fit, and keeps these.
use Rattle.std.proofs.Common.{◌≡◌, ◌∙◌, ◌+◌, suc, refl, sym, ap, subst, arith, true, false, List, [], ◌∷◌, ◌++◌, length, Option, Some, None, append_assoc}
use Rattle.std.specs.Prelude.{IsUtf8, codes, is_some, slice_get, if◌then◌else◌}
use Rattle.std.specs.List.{AllByRecursion, list_any}
use Rattle.std.specs.Str.{bytes_eq}
use Rattle.std.proofs.lemmas.List.{length-append}
use Rattle.std.proofs.lemmas.List.Folds.{list_any-append}
use Rattle.std.proofs.lemmas.Bool.{true≢false}
use Rattle.clap.specs.Walk.{Held, Walk, has_row, reacted, settled}
use Rattle.clap.specs.Kinds.{Kinds}
use Rattle.clap.specs.Faults.{repeat_fault, settle_fault}
use Rattle.clap.specs.declared.error.kind.ErrorKind.TheVariants as kind
use Rattle.command_words.specs.Grammar.{Name, Text, Item, Flag, Setting, Place, are_distinct, begins_with_hyphen, is_flag, option_names_in, positional_words, put, option_spelling, value_in}
use Rattle.command_words.specs.Given.{ItemsFit}
use Rattle.command_words.proofs.Rules.{Spot, first, second, third, by_id, by_spot_id, option_use, rule_of_option, command_shape, spot_at, spot_id, spot_use}
use Rattle.command_words.proofs.Rows.{has_row_is, names_in_more, or_right, places_in_more, stands_is, name_twice_not_distinct}
use Rattle.command_words.proofs.Turns.{Fails, fails_here, next_place, held_positional}
use Rattle.command_words.proofs.WalkItems.{IsNamed, Stands, flag_named, flag_used, name_row, named_stands, no_repeat, option_used, place_stands, setting_named, single_value, spot_used}

-- the walk of the words that spell these items, behind the items read so far: it ends and keeps them where they fit, and fails where they don't or where the words spell nothing
pub data Comes (items : List Item) (spelled : Option (List Item)) (kinds : Kinds) (end : Walk) : Type 0 where
  good : (more : List Item) (place : Option Spot) → spelled ≡ Some more → kinds ≡ [] → Stands (items ++ more) end.held place → end.stopped ≡ None → Comes items spelled kinds end
  bad : Fails kinds → ((more : List Item) → spelled ≡ Some more → ItemsFit (items ++ more) → ⊥) → Comes items spelled kinds end

-- something isn't nothing
pub some_of : {X : Type 0} (x : X) → Some x ≡ None → ⊥
some_of x e = true≢false (ap is_some e)

-- what is put before a rest is the item and that rest
pub put_some : (x : Item) (o : Option (List Item)) (more : List Item) → put x o ≡ Some more → (rest : List Item) × (o ≡ Some rest) × (more ≡ x ∷ rest)
put_some x None more e = absurd (some_of more (sym e))
put_some x (Some rest) more e = (rest, refl, ap (λ o. Rattle.std.specs.Prelude.unwrap_or o []) (sym e))

one_more : (items : List Item) (x : Item) (more : List Item) → (items ++ x ∷ []) ++ more ≡ items ++ x ∷ more
one_more items x more = append_assoc items (x ∷ []) more

-- the item x came of a word
pub comes_by_word : (items : List Item) (x : Item) (spelled spelled2 : Option (List Item)) (kinds kinds2 : Kinds) (end end2 : Walk) → Comes (items ++ x ∷ []) spelled kinds end
    → spelled2 ≡ put x spelled → kinds2 ≡ kinds → end2 ≡ end → Comes items spelled2 kinds2 end2
comes_by_word items x spelled spelled2 kinds kinds2 end end2 (good more place is none stands at_top) s k e =
    good (x ∷ more) place (s ∙ ap (put x) is) (k ∙ none)
    (subst (λ (w : Walk). Stands (items ++ x ∷ more) w.held place) (sym e) (subst (λ l. Stands l end.held place) (one_more items x more) stands))
    (ap (λ (w : Walk). w.stopped) e ∙ at_top)
comes_by_word items x spelled spelled2 kinds kinds2 end end2 (bad fails never) s k e =
    bad (λ none. fails (sym k ∙ none))
    (λ more is fit. let p = put_some x spelled more (sym s ∙ is) in
    never p.0 p.1 (subst ItemsFit (ap (λ l. items ++ l) p.2 ∙ sym (one_more items x p.0)) fit))

-- the same walk of equal words, from equal ends
pub comes_of_equal_words : (items : List Item) (spelled spelled2 : Option (List Item)) (kinds kinds2 : Kinds) (end end2 : Walk) → Comes items spelled kinds end
    → spelled2 ≡ spelled → kinds2 ≡ kinds → end2 ≡ end → Comes items spelled2 kinds2 end2
comes_of_equal_words items spelled spelled2 kinds kinds2 end end2 c s k e =
    subst (λ o. Comes items o kinds2 end2) (sym s) (subst (λ l. Comes items spelled l end2) (sym k) (subst (λ w. Comes items spelled kinds w) (sym e) c))

-- ---- what doesn't fit

-- a name that stands already doesn't fit
pub no_fit_twice : (items : List Item) (n : Name) (v u : Text) (x : Item) (more : List Item) → IsNamed x n v → value_in n items ≡ Some u → ItemsFit (items ++ x ∷ more) → ⊥
no_fit_twice items n v u x more is there fit =
    let names : option_names_in (items ++ x ∷ more) ≡ option_names_in items ++ n ∷ option_names_in more =
    names_in_more items (x ∷ more) ∙ ap (λ l. option_names_in items ++ l) (names_in_more (x ∷ []) more ∙ ap (λ l. l ++ option_names_in more) is.names) in
    let no : are_distinct (option_names_in (items ++ x ∷ more)) ≡ false = ap are_distinct names ∙ name_twice_not_distinct n (option_names_in items) (option_names_in more) (stands_is n items ∙ ap is_some there) in
    true≢false (sym fit.distinct ∙ no)

-- nor does a fourth positional word
pub no_fit_fourth : (items : List Item) (w : Text) (more : List Item) → length (positional_words items) ≡ 3 → ItemsFit (items ++ Place w ∷ more) → ⊥
no_fit_fourth items w more three fit =
    let many : length (positional_words (items ++ Place w ∷ more)) ≡ 3 + suc (length (positional_words more)) =
    ap length (places_in_more items (Place w ∷ more)) ∙ length-append (positional_words items) (w ∷ positional_words more) ∙ ap (λ k. k + suc (length (positional_words more))) three in
    let few = fit.few in
    omega (arith, many, few)

-- nor does a positional word that begins with `-`
pub no_fit_hyphen : (items : List Item) (w : Text) (more : List Item) → begins_with_hyphen w ≡ true → ItemsFit (items ++ Place w ∷ more) → ⊥
no_fit_hyphen items w more begins fit =
    let there : list_any begins_with_hyphen (positional_words (items ++ Place w ∷ more)) ≡ true =
    ap (list_any begins_with_hyphen) (places_in_more items (Place w ∷ more)) ∙ list_any-append begins_with_hyphen (positional_words items) (w ∷ positional_words more)
    ∙ or_right (list_any begins_with_hyphen (positional_words items)) _ (rw begins refl) in
    true≢false (sym there ∙ fit.plain)

-- ---- one item more

past_end : (ps : List Text) (s : Spot) → length ps ≡ spot_at s → slice_get ps (spot_at s) ≡ None
past_end [] first e = refl
past_end [] second e = refl
past_end [] third e = refl
past_end (a ∷ ps) first e = absurd (omega (arith, e))
past_end (a ∷ []) second e = refl
past_end (a ∷ b ∷ ps) second e = absurd (omega (arith, e))
past_end (a ∷ []) third e = refl
past_end (a ∷ b ∷ []) third e = refl
past_end (a ∷ b ∷ c ∷ ps) third e = absurd (omega (arith, e))

spot_free : (items : List Item) (h : Held) (s : Spot) → Stands items h (Some s) → has_row (spot_id s) (settled command_shape.rules h).rows ≡ false
spot_free items h s st = has_row_is (spot_id s) _ ∙ ap is_some (st.spots s ∙ ap single_value (past_end (positional_words items) s st.count))

-- a positional word is kept
pub placed_stands : (items : List Item) (h : Held) (s : Spot) (w : Text) → Stands items h (Some s) → Stands (items ++ Place w ∷ []) (held_positional s w h) (next_place s)
placed_stands items h s w st =
    let free = spot_free items h s st in
    let u = spot_used s w (settled command_shape.rules h).rows free in
    place_stands items h (held_positional s w h) s u.0 w st
    (rw (by_spot_id s) (spot_use s w _ ∙ no_repeat (spot_id s) _ free))
    st.skip
    (rw (by_spot_id s) u.1)

-- an option with its value
abbrev pub held_with_value : Name → Text → Held → Held
held_with_value n v h = record (settled command_shape.rules h) { pending = Some (option_spelling n, v ∷ []) }

free_name : (items : List Item) (h : Held) (place : Option Spot) (n : Name) → Stands items h place → value_in n items ≡ None → has_row (option_spelling n) (settled command_shape.rules h).rows ≡ false
free_name items h place n st none = name_row items h place n st ∙ ap is_some none

-- the value of an option is kept
pub valued_stands : (items : List Item) (h : Held) (place : Option Spot) (n : Name) (v : Text) → Stands items h place → is_flag n ≡ false → value_in n items ≡ None
    → Stands (items ++ Setting n v ∷ []) (held_with_value n v h) place
valued_stands items h place n v st flag none =
    let free = free_name items h place n st none in
    let u = option_used n v (settled command_shape.rules h).rows flag free in
    named_stands items h (held_with_value n v h) place n u.0 v (Setting n v) st (setting_named n v) none
    (rw (by_id n) (option_use n v _ flag ∙ no_repeat (option_spelling n) _ free))
    st.skip
    (rw (by_id n) u.1)

-- an option that stands has its row
pub taken_name : (items : List Item) (h : Held) (place : Option Spot) (n : Name) (u : Text) → Stands items h place → value_in n items ≡ Some u
    → repeat_fault false (option_spelling n) (settled command_shape.rules h).rows ≡ kind.ArgumentConflict ∷ []
taken_name items h place n u st there =
    let row : has_row (option_spelling n) (settled command_shape.rules h).rows ≡ true = name_row items h place n st ∙ ap is_some there in
    rw row refl

-- the value of an option that stands already fails
pub valued_fails : (items : List Item) (h : Held) (place : Option Spot) (n : Name) (v u : Text) → Stands items h place → is_flag n ≡ false → value_in n items ≡ Some u
    → Fails (settle_fault command_shape.rules false (held_with_value n v h))
valued_fails items h place n v u st flag there = rw (by_id n, option_use n v (settled command_shape.rules h).rows flag, taken_name items h place n u st there) (fails_here _ _)

-- a value behind `=` is kept
pub joined_stands : (items : List Item) (h : Held) (place : Option Spot) (n : Name) (v : Text) → Stands items h place → is_flag n ≡ false → value_in n items ≡ None
    → Stands (items ++ Setting n v ∷ []) (reacted command_shape.rules (rule_of_option n) (v ∷ []) h) place
joined_stands items h place n v st flag none =
    let u = option_used n v (settled command_shape.rules h).rows flag (free_name items h place n st none) in
    named_stands items h (reacted command_shape.rules (rule_of_option n) (v ∷ []) h) place n u.0 v (Setting n v) st (setting_named n v) none refl st.skip u.1

-- a flag is kept
pub flag_stands : (items : List Item) (h : Held) (place : Option Spot) (n : Name) → Stands items h place → is_flag n ≡ true → value_in n items ≡ None
    → Stands (items ++ Flag n ∷ []) (reacted command_shape.rules (rule_of_option n) [] h) place
flag_stands items h place n st flag none =
    let u = flag_used n (settled command_shape.rules h).rows flag (free_name items h place n st none) in
    named_stands items h (reacted command_shape.rules (rule_of_option n) [] h) place n u.0 (codes "true") (Flag n) st (flag_named n) none refl st.skip u.1

-- a name that doesn't stand yet is no repetition
pub free_fault : (items : List Item) (h : Held) (place : Option Spot) (n : Name) → Stands items h place → value_in n items ≡ None
    → repeat_fault false (option_spelling n) (settled command_shape.rules h).rows ≡ []
free_fault items h place n st none = no_repeat (option_spelling n) _ (free_name items h place n st none)
