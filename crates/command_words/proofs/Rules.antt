-- What the walk of clap finds for a name, an id and a place in the one command.
use Rattle.std.proofs.Common.{◌≡◌, ℕ, refl, Bool, true, false, cond, not, List, [], ◌∷◌, Some, None, codes, option_map}
use Rattle.std.specs.Str.{bytes_eq}
use Rattle.clap.specs.Walk.{Rule, Row, arg_by_id, arg_by_index, arg_by_long, arg_by_short, takes_values}
use Rattle.clap.specs.Simple.{Shape, built, filled, new_rule, with_index, is_simple}
use Rattle.clap.specs.Faults.{is_simple_and_free, use_fault, repeat_fault}
use Rattle.std.specs.Prelude.{◌+◌, ◌||◌}
use Rattle.std.proofs.lemmas.Bool.{false≢true, true≢false}
use Rattle.clap.specs.Kinds.{Kinds, or_else}
use Rattle.clap.specs.declared.error.kind.ErrorKind.TheVariants as kind
use Rattle.command_words.specs.Arguments.{check_app, flag_rule, option_rule}
use Rattle.command_words.specs.Grammar.{Name, Text, Low, High, Rack, Hold, Block, Float, Loops, Json, option_spelling, is_flag, option_with_name}

-- the three positional words
pub data Spot : Type 0 where
  first : Spot
  second : Spot
  third : Spot

-- the id of a positional word
abbrev pub spot_id : Spot → Text
spot_id first = codes "command"
spot_id second = codes "rows"
spot_id third = codes "start"

-- its rule
abbrev pub spot_rule : Spot → Rule
spot_rule first = with_index 1 (filled (new_rule (codes "command")))
spot_rule second = with_index 2 (filled (new_rule (codes "rows")))
spot_rule third = with_index 3 (filled (new_rule (codes "start")))

-- the rule of an option or a flag
abbrev pub rule_of_option : Name → Rule
rule_of_option Low = filled (option_rule (codes "low"))
rule_of_option High = filled (option_rule (codes "high"))
rule_of_option Rack = filled (option_rule (codes "rack"))
rule_of_option Hold = filled (option_rule (codes "hold"))
rule_of_option Block = filled (option_rule (codes "block"))
rule_of_option Float = filled (option_rule (codes "float"))
rule_of_option Loops = filled (flag_rule (codes "loops"))
rule_of_option Json = filled (flag_rule (codes "json"))

-- all rules of the command, in their order
abbrev pub rules : List Rule
rules = rule_of_option Low ∷ rule_of_option High ∷ rule_of_option Rack ∷ rule_of_option Hold ∷ rule_of_option Block ∷ rule_of_option Float ∷ rule_of_option Loops ∷ rule_of_option Json ∷ spot_rule first ∷ spot_rule second ∷ spot_rule third ∷ []

-- the shape of the command
abbrev pub command_shape : Shape
command_shape = (built check_app).top

-- its rules are these
pub rules_are : command_shape.rules ≡ rules
rules_are = refl

-- the command is a simple one
pub is_simple_app : is_simple check_app ≡ true
is_simple_app = refl

-- and has no ties between its arguments
pub is_free_app : is_simple_and_free check_app ≡ true
is_free_app = refl

-- the place of a positional word, from 0
abbrev pub spot_at : Spot → ℕ
spot_at first = 0
spot_at second = 1
spot_at third = 2

-- the rule under the id of an option
pub by_id : (n : Name) → arg_by_id command_shape.rules (option_spelling n) ≡ Some (rule_of_option n)
by_id Low = refl
by_id High = refl
by_id Rack = refl
by_id Hold = refl
by_id Block = refl
by_id Float = refl
by_id Loops = refl
by_id Json = refl

-- the rule under the id of a positional word
pub by_spot_id : (s : Spot) → arg_by_id command_shape.rules (spot_id s) ≡ Some (spot_rule s)
by_spot_id first = refl
by_spot_id second = refl
by_spot_id third = refl

-- the rules by their long names, test by test
long_by_tests : (a b c d e f g h : Bool) → cond (a || false) (Some (rule_of_option Low)) (cond (b || false) (Some (rule_of_option High)) (cond (c || false) (Some (rule_of_option Rack))
    (cond (d || false) (Some (rule_of_option Hold)) (cond (e || false) (Some (rule_of_option Block)) (cond (f || false) (Some (rule_of_option Float)) (cond (g || false) (Some (rule_of_option Loops)) (cond (h || false) (Some (rule_of_option Json)) None)))))))
    ≡ option_map rule_of_option (cond a (Some Low) (cond b (Some High) (cond c (Some Rack) (cond d (Some Hold) (cond e (Some Block) (cond f (Some Float) (cond g (Some Loops) (cond h (Some Json) None))))))))
long_by_tests true b c d e f g h = refl
long_by_tests false true c d e f g h = refl
long_by_tests false false true d e f g h = refl
long_by_tests false false false true e f g h = refl
long_by_tests false false false false true f g h = refl
long_by_tests false false false false false true g h = refl
long_by_tests false false false false false false true h = refl
long_by_tests false false false false false false false true = refl
long_by_tests false false false false false false false false = refl

-- the rule of the name behind `--`
pub by_long : (t : Text) → arg_by_long command_shape.rules t ≡ option_map rule_of_option (option_with_name t)
by_long t = long_by_tests (bytes_eq (option_spelling Low) t) (bytes_eq (option_spelling High) t) (bytes_eq (option_spelling Rack) t) (bytes_eq (option_spelling Hold) t)
    (bytes_eq (option_spelling Block) t) (bytes_eq (option_spelling Float) t) (bytes_eq (option_spelling Loops) t) (bytes_eq (option_spelling Json) t)

-- no letter has a rule
pub by_short : (x : ℕ) → arg_by_short command_shape.rules x ≡ None
by_short x = refl

-- the rule at the place of a positional word
pub by_index : (s : Spot) → arg_by_index command_shape.rules (1 + spot_at s) ≡ Some (spot_rule s)
by_index first = refl
by_index second = refl
by_index third = refl

-- there is no fourth positional word
pub past_index : arg_by_index command_shape.rules 4 ≡ None
past_index = refl

-- an option's use with one value, and a flag's with none, fail only where it was used before
no_more : (ks : Kinds) → or_else ks [] ≡ ks
no_more [] = refl
no_more (k ∷ ks) = refl

-- a value of an option is at fault only where it stands already
pub option_use : (n : Name) (v : Text) (rows : List Row) → is_flag n ≡ false → use_fault false (rule_of_option n) (v ∷ []) rows ≡ repeat_fault false (option_spelling n) rows
option_use Low v rows flag = no_more _
option_use High v rows flag = no_more _
option_use Rack v rows flag = no_more _
option_use Hold v rows flag = no_more _
option_use Block v rows flag = no_more _
option_use Float v rows flag = no_more _
option_use Loops v rows bad = absurd (true≢false bad)
option_use Json v rows bad = absurd (true≢false bad)

-- so is a flag
pub flag_use : (n : Name) (rows : List Row) → is_flag n ≡ true → use_fault false (rule_of_option n) [] rows ≡ repeat_fault false (option_spelling n) rows
flag_use Loops rows flag = no_more _
flag_use Json rows flag = no_more _
flag_use Low rows bad = absurd (false≢true bad)
flag_use High rows bad = absurd (false≢true bad)
flag_use Rack rows bad = absurd (false≢true bad)
flag_use Hold rows bad = absurd (false≢true bad)
flag_use Block rows bad = absurd (false≢true bad)
flag_use Float rows bad = absurd (false≢true bad)

-- so is a positional word
pub spot_use : (s : Spot) (v : Text) (rows : List Row) → use_fault false (spot_rule s) (v ∷ []) rows ≡ repeat_fault false (spot_id s) rows
spot_use first v rows = no_more _
spot_use second v rows = no_more _
spot_use third v rows = no_more _

-- an option that waits has no value yet, and its use would fail
pub waiting_use : (n : Name) (rows : List Row) → is_flag n ≡ false → use_fault false (rule_of_option n) [] rows ≡ kind.InvalidValue ∷ []
waiting_use Low rows flag = refl
waiting_use High rows flag = refl
waiting_use Rack rows flag = refl
waiting_use Hold rows flag = refl
waiting_use Block rows flag = refl
waiting_use Float rows flag = refl
waiting_use Loops rows bad = absurd (true≢false bad)
waiting_use Json rows bad = absurd (true≢false bad)

-- an option takes a value where it is no flag
pub takes_its_value : (n : Name) → takes_values (rule_of_option n) ≡ not (is_flag n)
takes_its_value Low = refl
takes_its_value High = refl
takes_its_value Rack = refl
takes_its_value Hold = refl
takes_its_value Block = refl
takes_its_value Float = refl
takes_its_value Loops = refl
takes_its_value Json = refl

-- the id of an option is its name
pub rule_id : (n : Name) → (rule_of_option n).id ≡ option_spelling n
rule_id Low = refl
rule_id High = refl
rule_id Rack = refl
rule_id Hold = refl
rule_id Block = refl
rule_id Float = refl
rule_id Loops = refl
rule_id Json = refl
