-- The walk over all the words.
use Rattle.std.proofs.Common.{◌≡◌, ◌∙◌, refl, sym, ap, subst, Bool, true, false, List, [], ◌∷◌, ◌++◌, map, Option, Some, None, append-nil}
use Rattle.std.specs.Prelude.{⊤, IsUtf8, codes}
use Rattle.std.specs.List.{AllByRecursion}
use Rattle.std.specs.Str.{bytes_eq}
use Rattle.std.proofs.lemmas.Bool.{false≢true, true≢false}
use Rattle.clap.specs.Lexer.{long_of, short_of}
use Rattle.clap.specs.Walk.{Held, Waiting, Walk, idle, option, reacted, settled, walked}
use Rattle.clap.specs.Kinds.{Kinds, or_else}
use Rattle.clap.specs.Faults.{turn_fault, use_fault}
use Rattle.command_words.specs.Grammar.{Name, Text, Item, Flag, Setting, Place, is_end_of_options, is_flag, option_with_name, option_items, option_name, option_text, option_value, put, option_spelling, value_in}
use Rattle.command_words.specs.Taken.{is_value, taken_of}
use Rattle.command_words.specs.Given.{ItemsFit}
use Rattle.command_words.proofs.Rules.{Spot, flag_use, option_use, rule_of_option, command_shape}
use Rattle.knit_base.proofs.Places.{by_test}
use Rattle.command_words.proofs.Looks.{Looks, ends, long, short, plain, every_word_looks}
use Rattle.command_words.proofs.Turns.{Fails, IsLong, IsPlainWord, at, held_awaiting, dashes, end_of, fails_here, faults_at_end, faults_from, faults_step, faults_stuck, flag_move, flag_turn, joined_move, joined_turn, move_dashes, next_place, option_move, option_turn, past_stuck, place_move, place_of, place_turn, held_positional, short_stuck, trailing_move, trailing_stuck, trailing_turn, turn_dashes, unknown_stuck, valued_flag_stuck, value_move, value_turn}
use Rattle.command_words.proofs.Failures.{idle_doomed, waiting_doomed, waiting_fails}
use Rattle.command_words.proofs.WalkItems.{Stands, flag_named, setting_named}
use Rattle.command_words.proofs.Outcomes.{Comes, flag_stands, joined_stands, comes_of_equal_words, no_fit_fourth, no_fit_hyphen, no_fit_twice, placed_stands, put_some, some_of, comes_by_word, taken_name, held_with_value, valued_fails, valued_stands}
use Rattle.command_words.proofs.Outcomes as comes

end_step : (w after : Walk) (word : Text) (words : List Text) → walked command_shape.rules [] w word ≡ after → end_of w (word ∷ words) ≡ end_of after words
end_step w after word words moves = ap (λ v. end_of v words) moves

at_the_end : (items : List Item) (h : Held) (waiting : Waiting) (place : Option Spot) (trailing : Bool) → Stands items h place
    → Comes items (Some []) (faults_from (at h waiting (place_of place) trailing) []) (at h waiting (place_of place) trailing)
at_the_end items h waiting place trailing st =
    comes.good [] place refl (faults_at_end (at h waiting (place_of place) trailing) ∙ st.sound) (subst (λ l. Stands l h place) (sym (append-nil items)) st) refl

-- a bad word that spells x first
bad_first : (items : List Item) (x : Item) (spelled spelled2 : Option (List Item)) (kinds : Kinds) (end : Walk) → Fails kinds → spelled2 ≡ put x spelled
    → ((more : List Item) → ItemsFit (items ++ x ∷ more) → ⊥) → Comes items spelled2 kinds end
bad_first items x spelled spelled2 kinds end fails is never =
    comes.bad fails (λ more e fit. let p = put_some x spelled more (sym is ∙ e) in never p.0 (subst ItemsFit (ap (λ l. items ++ l) p.2) fit))

bad_none : (items : List Item) (spelled : Option (List Item)) (kinds : Kinds) (end : Walk) → Fails kinds → spelled ≡ None → Comes items spelled kinds end
bad_none items spelled kinds end fails is = comes.bad fails (λ more e fit. some_of more (sym e ∙ is))

-- after `--`
pub trailing_comes : (words : List Text) (items : List Item) (h : Held) (waiting : Waiting) (place : Option Spot) → Stands items h place
    → Comes items (Some (map Place words)) (faults_from (at h waiting (place_of place) true) words) (end_of (at h waiting (place_of place) true) words)
trailing_comes [] items h waiting place st = at_the_end items h waiting place true st
trailing_comes (word ∷ words) items h waiting None st =
    bad_first items (Place word) (Some (map Place words)) _ _ _ (faults_stuck (at h waiting 4 true) word words (trailing_stuck h waiting word)) refl
    (λ more. no_fit_fourth items word more st.count)
trailing_comes (word ∷ words) items h waiting (Some s) st =
    let after = at (held_positional s word h) idle (place_of (next_place s)) true in
    comes_by_word items (Place word) (Some (map Place words)) _ _ _ (end_of after words) _
    (trailing_comes words (items ++ Place word ∷ []) (held_positional s word h) idle (next_place s) (placed_stands items h s word st))
    refl
    (faults_step _ after word words (trailing_turn h s waiting word ∙ st.sound) (trailing_move h s waiting word))
    (end_step _ after word words (trailing_move h s waiting word))

-- ---- an option that waits

-- what is held where this option waits
abbrev pub held_for : Option Name → Held → Held
held_for None h = h
held_for (Some n) h = held_awaiting n h

-- what the walk waits for where this option does
abbrev pub waiting_for : Option Name → Waiting
waiting_for None = idle
waiting_for (Some n) = option (option_spelling n)

-- only an option that is no flag waits
abbrev pub MayWait : Option Name → Type 0
MayWait None = ⊤
MayWait (Some n) = is_flag n ≡ false

-- the walk at this place where this option waits
abbrev pub walk_for : Option Name → Held → Option Spot → Walk
walk_for waiting h place = at (held_for waiting h) (waiting_for waiting) (place_of place) false

-- what is known of the words that follow
abbrev pub Known : List Text → Type 0
Known words = (items : List Item) (h : Held) (place : Option Spot) (waiting : Option Name) → MayWait waiting → Stands items h place
    → Comes items (taken_of waiting words) (faults_from (walk_for waiting h place) words) (end_of (walk_for waiting h place) words)

joined_comes : (word : Text) (words : List Text) → AllByRecursion IsUtf8 words → Known words → (items : List Item) (h : Held) (place : Option Spot) → Stands items h place
    → (name v : Text) (n : Name) → IsLong word name (Some v) n → (taken_of None (word ∷ words) ≡ option_items (Some n) (Some v) (λ waiting. taken_of waiting words))
    → Comes items (taken_of None (word ∷ words)) (faults_from (walk_for None h place) (word ∷ words)) (end_of (walk_for None h place) (word ∷ words))
joined_comes word words u known items h place st name v n is reads = by_test (is_flag n)
    (λ flag. bad_none items _ _ _ (faults_stuck (walk_for None h place) word words (valued_flag_stuck h idle (place_of place) word name v n is flag)) (reads ∙ rw flag refl))
    (λ flag.
    let spelled : taken_of None (word ∷ words) ≡ put (Setting n v) (taken_of None words) = reads ∙ rw flag refl in
    let turn : turn_fault command_shape [] (walk_for None h place) word ≡ or_else (or_else [] (use_fault false (rule_of_option n) (v ∷ []) (settled command_shape.rules h).rows)) [] =
    joined_turn h (place_of place) word name v n is flag ∙ ap (λ ks. or_else (or_else ks (use_fault false (rule_of_option n) (v ∷ []) (settled command_shape.rules h).rows)) []) st.sound in
    go (value_in n items) refl flag spelled turn)
  where
    go : (o : Option Text) → value_in n items ≡ o → is_flag n ≡ false → taken_of None (word ∷ words) ≡ put (Setting n v) (taken_of None words)
        → turn_fault command_shape [] (walk_for None h place) word ≡ or_else (or_else [] (use_fault false (rule_of_option n) (v ∷ []) (settled command_shape.rules h).rows)) []
        → Comes items (taken_of None (word ∷ words)) (faults_from (walk_for None h place) (word ∷ words)) (end_of (walk_for None h place) (word ∷ words))
    go (Some t) there flag spelled turn =
        bad_first items (Setting n v) (taken_of None words) _ _ _
        (faults_stuck (walk_for None h place) word words (rw (turn, option_use n v (settled command_shape.rules h).rows flag, taken_name items h place n t st there) (fails_here _ _)))
        spelled (λ more. no_fit_twice items n v t (Setting n v) more (setting_named n v) there)
    go None there flag spelled turn =
        let after = reacted command_shape.rules (rule_of_option n) (v ∷ []) h in
        let none : turn_fault command_shape [] (walk_for None h place) word ≡ [] = turn ∙ rw (option_use n v (settled command_shape.rules h).rows flag, comes.free_fault items h place n st there) refl in
        comes_by_word items (Setting n v) (taken_of None words) _ _ _ (end_of (walk_for None after place) words) _
        (known (items ++ Setting n v ∷ []) after place None tt (joined_stands items h place n v st flag there))
        spelled
        (faults_step _ (walk_for None after place) word words none (joined_move h (place_of place) word name v n is flag))
        (end_step _ (walk_for None after place) word words (joined_move h (place_of place) word name v n is flag))

bare_comes : (word : Text) (words : List Text) → AllByRecursion IsUtf8 words → Known words → (items : List Item) (h : Held) (place : Option Spot) → Stands items h place
    → (name : Text) (n : Name) → IsLong word name None n → (taken_of None (word ∷ words) ≡ option_items (Some n) None (λ waiting. taken_of waiting words))
    → Comes items (taken_of None (word ∷ words)) (faults_from (walk_for None h place) (word ∷ words)) (end_of (walk_for None h place) (word ∷ words))
bare_comes word words u known items h place st name n is reads = by_test (is_flag n)
    (λ flag.
    let spelled : taken_of None (word ∷ words) ≡ put (Flag n) (taken_of None words) = reads ∙ rw flag refl in
    let turn : turn_fault command_shape [] (walk_for None h place) word ≡ or_else (or_else [] (use_fault false (rule_of_option n) [] (settled command_shape.rules h).rows)) [] =
    flag_turn h (place_of place) word name n is flag ∙ ap (λ ks. or_else (or_else ks (use_fault false (rule_of_option n) [] (settled command_shape.rules h).rows)) []) st.sound in
    go (value_in n items) refl flag spelled turn)
    (λ flag.
    let spelled : taken_of None (word ∷ words) ≡ taken_of (Some n) words = reads ∙ rw flag refl in
    let none : turn_fault command_shape [] (walk_for None h place) word ≡ [] = option_turn h (place_of place) word name n is flag ∙ ap (λ ks. or_else ks []) st.sound in
    comes_of_equal_words items (taken_of (Some n) words) _ _ _ (end_of (walk_for (Some n) h place) words) _
    (known items h place (Some n) flag st)
    spelled
    (faults_step _ (walk_for (Some n) h place) word words none (option_move h (place_of place) word name n is flag))
    (end_step _ (walk_for (Some n) h place) word words (option_move h (place_of place) word name n is flag)))
  where
    go : (o : Option Text) → value_in n items ≡ o → is_flag n ≡ true → taken_of None (word ∷ words) ≡ put (Flag n) (taken_of None words)
        → turn_fault command_shape [] (walk_for None h place) word ≡ or_else (or_else [] (use_fault false (rule_of_option n) [] (settled command_shape.rules h).rows)) []
        → Comes items (taken_of None (word ∷ words)) (faults_from (walk_for None h place) (word ∷ words)) (end_of (walk_for None h place) (word ∷ words))
    go (Some t) there flag spelled turn =
        bad_first items (Flag n) (taken_of None words) _ _ _
        (faults_stuck (walk_for None h place) word words (rw (turn, flag_use n (settled command_shape.rules h).rows flag, taken_name items h place n t st there) (fails_here _ _)))
        spelled (λ more. no_fit_twice items n (codes "true") t (Flag n) more (flag_named n) there)
    go None there flag spelled turn =
        let after = reacted command_shape.rules (rule_of_option n) [] h in
        let none : turn_fault command_shape [] (walk_for None h place) word ≡ [] = turn ∙ rw (flag_use n (settled command_shape.rules h).rows flag, comes.free_fault items h place n st there) refl in
        comes_by_word items (Flag n) (taken_of None words) _ _ _ (end_of (walk_for None after place) words) _
        (known (items ++ Flag n ∷ []) after place None tt (flag_stands items h place n st flag there))
        spelled
        (faults_step _ (walk_for None after place) word words none (flag_move h (place_of place) word name n is flag))
        (end_step _ (walk_for None after place) word words (flag_move h (place_of place) word name n is flag))

long_comes : (word : Text) (words : List Text) → AllByRecursion IsUtf8 words → Known words → (items : List Item) (h : Held) (place : Option Spot) → Stands items h place
    → (text : Text) → bytes_eq word dashes ≡ false → long_of word ≡ Some (option_name text, option_value text) → option_text word ≡ Some text → is_end_of_options (Some text) ≡ false
    → Comes items (taken_of None (word ∷ words)) (faults_from (walk_for None h place) (word ∷ words)) (end_of (walk_for None h place) (word ∷ words))
long_comes word words u known items h place st text other is spelled some = go (option_with_name (option_name text)) refl (option_value text) refl
  where
    reads : (o : Option Name) (v : Option Text) → option_with_name (option_name text) ≡ o → option_value text ≡ v → taken_of None (word ∷ words) ≡ option_items o v (λ waiting. taken_of waiting words)
    reads o v e f = rw (spelled, some, e, f) refl

    go : (o : Option Name) → option_with_name (option_name text) ≡ o → (v : Option Text) → option_value text ≡ v
        → Comes items (taken_of None (word ∷ words)) (faults_from (walk_for None h place) (word ∷ words)) (end_of (walk_for None h place) (word ∷ words))
    go None e v f = bad_none items _ _ _ (faults_stuck (walk_for None h place) word words (unknown_stuck h idle (place_of place) word (option_name text) (option_value text) other is e))
        (reads None (option_value text) e refl)
    go (Some n) e None f = bare_comes word words u known items h place st (option_name text) n
        (record { other = other; long = is ∙ ap (λ v. Some (option_name text, v)) f; names = e }) (reads (Some n) None e f)
    go (Some n) e (Some v) f = joined_comes word words u known items h place st (option_name text) v n
        (record { other = other; long = is ∙ ap (λ w. Some (option_name text, w)) f; names = e }) (reads (Some n) (Some v) e f)

place_comes : (word : Text) (words : List Text) → Known words → (items : List Item) (h : Held) (place : Option Spot) → Stands items h place
    → IsPlainWord word → taken_of None (word ∷ words) ≡ put (Place word) (taken_of None words)
    → Comes items (taken_of None (word ∷ words)) (faults_from (walk_for None h place) (word ∷ words)) (end_of (walk_for None h place) (word ∷ words))
place_comes word words known items h None st is reads =
    bad_first items (Place word) (taken_of None words) _ _ _ (faults_stuck (walk_for None h None) word words (past_stuck h word is)) reads (λ more. no_fit_fourth items word more st.count)
place_comes word words known items h (Some s) st is reads =
    let after = walk_for None (held_positional s word h) (next_place s) in
    comes_by_word items (Place word) (taken_of None words) _ _ _ (end_of after words) _
    (known (items ++ Place word ∷ []) (held_positional s word h) (next_place s) None tt (placed_stands items h s word st))
    reads
    (faults_step _ after word words (place_turn h s word is ∙ st.sound) (place_move h s word is))
    (end_step _ after word words (place_move h s word is))

idle_comes : (word : Text) (words : List Text) → AllByRecursion IsUtf8 words → Known words → (items : List Item) (h : Held) (place : Option Spot) → Stands items h place → Looks word
    → Comes items (taken_of None (word ∷ words)) (faults_from (walk_for None h place) (word ∷ words)) (end_of (walk_for None h place) (word ∷ words))
idle_comes word words u known items h place st (long text other is spelled some) = long_comes word words u known items h place st text other is spelled some
idle_comes word words u known items h place st (short flags k x xs other none is some begins spelled hyphen) =
    bad_first items (Place word) (taken_of None words) _ _ _ (faults_stuck (walk_for None h place) word words (short_stuck h idle (place_of place) word flags k x xs other none is some begins st.skip))
    (rw spelled refl) (λ more. no_fit_hyphen items word more hyphen)
idle_comes word words u known items h place st (plain is none) = place_comes word words known items h place st is (rw none refl)
idle_comes word words u known items h place st (ends is) =
    let dash : Comes items (taken_of None (dashes ∷ words)) (faults_from (walk_for None h place) (dashes ∷ words)) (end_of (walk_for None h place) (dashes ∷ words)) =
    comes_of_equal_words items (Some (map Place words)) _ _ _ (end_of (at h idle (place_of place) true) words) _ (trailing_comes words items h idle place st)
    refl
    (faults_step _ _ dashes words (turn_dashes h idle (place_of place)) (move_dashes h idle (place_of place)))
    (end_step _ _ dashes words (move_dashes h idle (place_of place))) in
    subst (λ w. Comes items (taken_of None (w ∷ words)) (faults_from (walk_for None h place) (w ∷ words)) (end_of (walk_for None h place) (w ∷ words))) (sym is) dash

is_value_plain : (word : Text) → IsPlainWord word → is_value word ≡ true
is_value_plain word is = rw (is.other, is.long, is.short) refl

not_value : (word : Text) → is_value word ≡ false → IsPlainWord word → ⊥
not_value word no_value is = true≢false (sym (is_value_plain word is) ∙ no_value)

value_plain : (word : Text) → is_value word ≡ true → IsPlainWord word
value_plain word is = go (bytes_eq word dashes) refl (long_of word) refl (short_of word) refl
  where
    go : (b : Bool) → bytes_eq word dashes ≡ b → (l : Option (Text × Option Text)) → long_of word ≡ l → (s : Option Text) → short_of word ≡ s → IsPlainWord word
    go false e None f None g = record { other = e; long = f; short = g }
    go true e l f s g = absurd (false≢true (rw e at is))
    go false e (Some p) f s g = absurd (false≢true (rw (e, f) at is))
    go false e None f (Some p) g = absurd (false≢true (rw (e, f, g) at is))

value_comes : (word : Text) (words : List Text) → AllByRecursion IsUtf8 words → Looks word → Known words → (items : List Item) (h : Held) (place : Option Spot) (n : Name) → is_flag n ≡ false → Stands items h place
    → Comes items (taken_of (Some n) (word ∷ words)) (faults_from (walk_for (Some n) h place) (word ∷ words)) (end_of (walk_for (Some n) h place) (word ∷ words))
value_comes word words u look known items h place n flag st = by_test (is_value word)
    (λ is. go (value_in n items) refl (value_plain word is) (rw is refl))
    (λ no_value. bad_none items _ _ _ (waiting_doomed words (held_awaiting n h) place n word look (not_value word no_value) st.skip flag refl) (rw no_value refl))
  where
    go : (o : Option Text) → value_in n items ≡ o → IsPlainWord word → taken_of (Some n) (word ∷ words) ≡ put (Setting n word) (taken_of None words)
        → Comes items (taken_of (Some n) (word ∷ words)) (faults_from (walk_for (Some n) h place) (word ∷ words)) (end_of (walk_for (Some n) h place) (word ∷ words))
    go (Some t) there is reads =
        let after = walk_for None (held_with_value n word h) place in
        bad_first items (Setting n word) (taken_of None words) _ _ _
        (subst Fails (sym (faults_step (walk_for (Some n) h place) after word words (value_turn (settled command_shape.rules h) [] n (place_of place) word is) (value_move (settled command_shape.rules h) n (place_of place) word is flag)))
        (idle_doomed words (held_with_value n word h) place u st.skip (valued_fails items h place n word t st flag there)))
        reads (λ more. no_fit_twice items n word t (Setting n word) more (setting_named n word) there)
    go None there is reads =
        let after = walk_for None (held_with_value n word h) place in
        comes_by_word items (Setting n word) (taken_of None words) _ _ _ (end_of after words) _
        (known (items ++ Setting n word ∷ []) (held_with_value n word h) place None tt (valued_stands items h place n word st flag there))
        reads
        (faults_step (walk_for (Some n) h place) after word words (value_turn (settled command_shape.rules h) [] n (place_of place) word is) (value_move (settled command_shape.rules h) n (place_of place) word is flag))
        (end_step (walk_for (Some n) h place) after word words (value_move (settled command_shape.rules h) n (place_of place) word is flag))

-- the walk takes any words as the grammar says
pub walk_comes : (words : List Text) → AllByRecursion IsUtf8 words → Known words
walk_comes [] u items h place None may st = at_the_end items h idle place false st
walk_comes [] u items h place (Some n) may st =
    bad_none items _ _ _ (subst Fails (sym (faults_at_end (walk_for (Some n) h place))) (waiting_fails n (held_awaiting n h) may refl)) refl
walk_comes (word ∷ words) u items h place None may st = idle_comes word words u.1 (walk_comes words u.1) items h place st (every_word_looks word u.0)
walk_comes (word ∷ words) u items h place (Some n) may st = value_comes word words u.1 (every_word_looks word u.0) (walk_comes words u.1) items h place n may st
