-- The faults and the matches of the one command, by the items that the words spell.
use Rattle.std.proofs.Common.{◌≡◌, ◌∙◌, refl, sym, ap, Bool, true, false, cond, List, [], ◌∷◌, Option, Some, None, option_map}
use Rattle.std.specs.Prelude.{codes, is_some, slice_get, find, option_and_then}
use Rattle.std.specs.List.{AllByRecursion}
use Rattle.std.specs.Str.{bytes_eq}
use Rattle.std.proofs.lemmas.Slice.Eq.{bytes_eq-Decides}
use Rattle.std.proofs.lemmas.Bool.{false≢true, true≢false}
use Rattle.clap.specs.Walk.{Held, Row, Rule, Walk, all_of, finished, first_of, has_row, idle, nothing_held, settled, with_default, with_values}
use Rattle.clap.specs.Simple.{built}
use Rattle.clap.specs.Kinds.{Kinds, or_else}
use Rattle.clap.specs.Faults.{default_fault, defaults_fault, entered_fault, fault_of, given_default_fault, walk_fault}
use Rattle.clap.specs.declared.parser.matches.ValueSource.TheVariants.{DefaultValue}
use Rattle.clap.specs.Walk.{more_values}
use Rattle.command_words.specs.Arguments.{check_app}
use Rattle.command_words.specs.Grammar.{Name, Text, Low, High, Rack, Hold, Block, Float, Loops, Json, is_flag, option_spelling}
use Rattle.command_words.proofs.Rules.{Spot, first, second, third, rule_of_option, command_shape, spot_id, spot_rule}
use Rattle.knit_base.proofs.Places.{by_test}
use Rattle.command_words.proofs.Rows.{added_row, at_row_none, has_row_is, or_first}
use Rattle.command_words.proofs.Turns.{Fails, at, end_of, faults_from, place_of}
use Rattle.command_words.proofs.WalkItems.{Stands, single_value}
use Rattle.command_words.proofs.Walks.{walk_for}

-- ---- the start

-- the walk before the first word
abbrev pub start : Walk
start = walk_for None nothing_held (Some first)

-- it has kept nothing
pub stands_first : Stands [] nothing_held (Some first)
stands_first = record { sound = refl; skip = refl; named = λ n. refl; spots = λ s. refl; distinct = refl; count = refl }

-- ---- defaults

no_default_fault : (rows : List Row) (a : Rule) → a.defaults ≡ [] → default_fault rows a ≡ []
no_default_fault rows a none = by_test (has_row a.id rows) (λ e. rw e refl) (λ e. rw (e, none) refl)

flag_default_fault : (rows : List Row) (a : Rule) → given_default_fault a a.defaults ≡ [] → default_fault rows a ≡ []
flag_default_fault rows a none = by_test (has_row a.id rows) (λ e. rw e refl) (λ e. go e (Rattle.clap.specs.Walk.is_empty a.defaults) refl)
  where
    go : has_row a.id rows ≡ false → (b : Bool) → Rattle.clap.specs.Walk.is_empty a.defaults ≡ b → default_fault rows a ≡ []
    go e true f = rw (e, f) refl
    go e false f = rw (e, f) none

all_defaults : (rows : List Row) (rules : List Rule) → AllByRecursion (λ a. (r : List Row) → default_fault r a ≡ []) rules → defaults_fault rows rules ≡ []
unfolding defaults_fault
all_defaults rows [] h = refl
all_defaults rows (a ∷ rest) h = rw (h.0 rows) (all_defaults (with_default rows a) rest h.1)

-- no default is at fault
pub no_defaults_fault : (rows : List Row) → defaults_fault rows command_shape.rules ≡ []
no_defaults_fault rows = all_defaults rows command_shape.rules (
  (λ r. no_default_fault r (rule_of_option Low) refl),
  (
    (λ r. no_default_fault r (rule_of_option High) refl),
    (
      (λ r. no_default_fault r (rule_of_option Rack) refl),
      (
        (λ r. no_default_fault r (rule_of_option Hold) refl),
        (
          (λ r. no_default_fault r (rule_of_option Block) refl),
          (
            (λ r. no_default_fault r (rule_of_option Float) refl),
            (
              (λ r. flag_default_fault r (rule_of_option Loops) refl),
              (
                (λ r. flag_default_fault r (rule_of_option Json) refl),
                ((λ r. no_default_fault r (spot_rule first) refl), ((λ r. no_default_fault r (spot_rule second) refl), ((λ r. no_default_fault r (spot_rule third) refl), tt))),
              ),
            ),
          ),
        ),
      ),
    ),
  ),
)

-- ---- the faults

below : (stop : Option (Text × List Text)) → entered_fault (built check_app) stop ≡ []
below None = refl
below (Some p) = refl

fails_within : (a b c d : Kinds) → b ≡ [] → Fails (or_else a c) → Fails (or_else a (or_else b (or_else c d)))
fails_within (k ∷ ks) b c d none h e = h e
fails_within [] [] (k ∷ ks) d none h e = h e
fails_within [] [] [] d none h e = h refl
fails_within [] (k ∷ ks) c d none h e = h (absurd (Rattle.command_words.proofs.Turns.fails_here k ks none))

none_within : (a b c d : Kinds) → b ≡ [] → or_else a c ≡ [] → d ≡ [] → or_else a (or_else b (or_else c d)) ≡ []
none_within (k ∷ ks) b c d none e f = e
none_within [] b c d none e f = rw (none, e) f

-- where the walk fails, the command does
pub fault_fails : (words : List Text) → Fails (faults_from start words) → Fails (fault_of check_app words)
fault_fails words h = fails_within (walk_fault command_shape [] start words) _ _ _ (below (end_of start words).stopped) h

-- where the walk comes to its end with no fault, the command has none
pub fault_none : (words : List Text) → faults_from start words ≡ [] → (end_of start words).stopped ≡ None → fault_of check_app words ≡ []
fault_none words none at_top =
    none_within (walk_fault command_shape [] start words) _ _ _ (below (end_of start words).stopped) none
    (rw (no_defaults_fault (settled command_shape.rules (end_of start words).held).rows, at_top) refl)

-- ---- the rows

no_default : (rows : List Row) (a : Rule) → a.defaults ≡ [] → with_default rows a ≡ rows
no_default rows a none = by_test (has_row a.id rows) (λ e. rw e refl) (λ e. rw (e, none) refl)

first_stays : {X : Type 0} (o p : Option X) → is_some o ≡ true → o ≡ or_first o p
first_stays None p e = absurd (false≢true e)
first_stays (Some x) p e = refl

none_first : {X : Type 0} (o : Option X) → o ≡ or_first o None
none_first None = refl
none_first (Some x) = refl

-- an argument with a default has it where it is not used
default_row : (k : Text) (rows : List Row) (a : Rule) (v : Text) → a.defaults ≡ v ∷ []
    → all_of k (with_default rows a) ≡ or_first (all_of k rows) (cond (bytes_eq a.id k) (Some (v ∷ [])) None)
default_row k rows a v is = by_test (has_row a.id rows)
    (λ used. rw used (by_test (bytes_eq a.id k)
    (λ same.
    let id : a.id ≡ k = (bytes_eq-Decides a.id k).0 same in
    let some : is_some (all_of k rows) ≡ true = sym (has_row_is k rows) ∙ ap (λ t. has_row t rows) (sym id) ∙ used in
    first_stays (all_of k rows) _ some)
    (λ other. rw other (none_first (all_of k rows)))))
    (λ unused. rw (unused, is)
    (ap (all_of k) (at_row_none a.id (more_values DefaultValue (v ∷ [])) _ rows unused) ∙ added_row k rows _))

-- ---- what the matches hold

-- the rows with the flags that don't stand, which are `false`
abbrev pub rows_with_flags : List Row → List Row
rows_with_flags rows = with_default (with_default rows (rule_of_option Loops)) (rule_of_option Json)

-- what the command finds are these rows
pub finished_is : (h : Held) → finished command_shape.rules h ≡ rows_with_flags (settled command_shape.rules h).rows
finished_is h =
    let rows = (settled command_shape.rules h).rows in
    let low = no_default rows (rule_of_option Low) refl in
    let high = no_default (with_default rows (rule_of_option Low)) (rule_of_option High) refl ∙ low in
    let rack = no_default (with_default (with_default rows (rule_of_option Low)) (rule_of_option High)) (rule_of_option Rack) refl ∙ high in
    let hold = no_default (with_default (with_default (with_default rows (rule_of_option Low)) (rule_of_option High)) (rule_of_option Rack)) (rule_of_option Hold) refl ∙ rack in
    let block = no_default (with_default (with_default (with_default (with_default rows (rule_of_option Low)) (rule_of_option High)) (rule_of_option Rack)) (rule_of_option Hold)) (rule_of_option Block) refl ∙ hold in
    let float = no_default (with_default (with_default (with_default (with_default (with_default rows (rule_of_option Low)) (rule_of_option High)) (rule_of_option Rack)) (rule_of_option Hold)) (rule_of_option Block)) (rule_of_option Float) refl ∙ block in
    let flags = ap rows_with_flags float in
    let all = rows_with_flags (with_default (with_default (with_default (with_default (with_default (with_default rows (rule_of_option Low)) (rule_of_option High)) (rule_of_option Rack)) (rule_of_option Hold)) (rule_of_option Block)) (rule_of_option Float)) in
    no_default (with_default (with_default all (spot_rule first)) (spot_rule second)) (spot_rule third) refl
    ∙ no_default (with_default all (spot_rule first)) (spot_rule second) refl ∙ no_default all (spot_rule first) refl ∙ flags

-- the values of an option, a flag and a positional
pub option_matched : (n : Name) (rows : List Row) → is_flag n ≡ false → all_of (option_spelling n) (rows_with_flags rows) ≡ all_of (option_spelling n) rows
option_matched Low rows flag = default_row _ (with_default rows (rule_of_option Loops)) (rule_of_option Json) _ refl ∙ sym (none_first _) ∙ default_row _ rows (rule_of_option Loops) _ refl ∙ sym (none_first _)
option_matched High rows flag = default_row _ (with_default rows (rule_of_option Loops)) (rule_of_option Json) _ refl ∙ sym (none_first _) ∙ default_row _ rows (rule_of_option Loops) _ refl ∙ sym (none_first _)
option_matched Rack rows flag = default_row _ (with_default rows (rule_of_option Loops)) (rule_of_option Json) _ refl ∙ sym (none_first _) ∙ default_row _ rows (rule_of_option Loops) _ refl ∙ sym (none_first _)
option_matched Hold rows flag = default_row _ (with_default rows (rule_of_option Loops)) (rule_of_option Json) _ refl ∙ sym (none_first _) ∙ default_row _ rows (rule_of_option Loops) _ refl ∙ sym (none_first _)
option_matched Block rows flag = default_row _ (with_default rows (rule_of_option Loops)) (rule_of_option Json) _ refl ∙ sym (none_first _) ∙ default_row _ rows (rule_of_option Loops) _ refl ∙ sym (none_first _)
option_matched Float rows flag = default_row _ (with_default rows (rule_of_option Loops)) (rule_of_option Json) _ refl ∙ sym (none_first _) ∙ default_row _ rows (rule_of_option Loops) _ refl ∙ sym (none_first _)
option_matched Loops rows flag = absurd (true≢false flag)
option_matched Json rows flag = absurd (true≢false flag)

-- they leave the positional words as they are
pub spot_matched : (s : Spot) (rows : List Row) → all_of (spot_id s) (rows_with_flags rows) ≡ all_of (spot_id s) rows
spot_matched first rows = default_row _ (with_default rows (rule_of_option Loops)) (rule_of_option Json) _ refl ∙ sym (none_first _) ∙ default_row _ rows (rule_of_option Loops) _ refl ∙ sym (none_first _)
spot_matched second rows = default_row _ (with_default rows (rule_of_option Loops)) (rule_of_option Json) _ refl ∙ sym (none_first _) ∙ default_row _ rows (rule_of_option Loops) _ refl ∙ sym (none_first _)
spot_matched third rows = default_row _ (with_default rows (rule_of_option Loops)) (rule_of_option Json) _ refl ∙ sym (none_first _) ∙ default_row _ rows (rule_of_option Loops) _ refl ∙ sym (none_first _)

-- `--loops` is what stands, or `false`
pub loops_matched : (rows : List Row) → all_of (option_spelling Loops) (rows_with_flags rows) ≡ or_first (all_of (option_spelling Loops) rows) (Some (codes "false" ∷ []))
loops_matched rows = default_row _ (with_default rows (rule_of_option Loops)) (rule_of_option Json) _ refl ∙ sym (none_first _) ∙ default_row _ rows (rule_of_option Loops) _ refl

-- `--json` is what stands, or `false`
pub json_matched : (rows : List Row) → all_of (option_spelling Json) (rows_with_flags rows) ≡ or_first (all_of (option_spelling Json) rows) (Some (codes "false" ∷ []))
json_matched rows = default_row _ (with_default rows (rule_of_option Loops)) (rule_of_option Json) _ refl ∙ ap (λ o. or_first o (Some (codes "false" ∷ []))) (default_row _ rows (rule_of_option Loops) _ refl ∙ sym (none_first _))

-- `get_str` reads the first value
pub first_is : (k : Text) (rows : List Row) → first_of k rows ≡ option_and_then (λ vs. slice_get vs 0) (all_of k rows)
first_is k rows = go (find (λ r. bytes_eq r.id k) rows)
  where
    go : (o : Option Row) → option_and_then (λ (r : Row). slice_get r.values 0) o ≡ option_and_then (λ vs. slice_get vs 0) (option_map (λ (r : Row). r.values) o)
    go None = refl
    go (Some r) = refl

-- the first of a single value is that value
pub first_single : (o : Option Text) → option_and_then (λ vs. slice_get vs 0) (single_value o) ≡ o
first_single None = refl
first_single (Some v) = refl
