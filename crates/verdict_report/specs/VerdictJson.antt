-- A verdict as a JSON value, and its line.
use Rattle.std.specs.Prelude.{ℕ, Option, None, Some, List, ◌++◌, length, map, codes}
use Rattle.serde_json.specs.Data.{Data, Members, array, member, no_members, number, object, string, unsigned}
use Rattle.serde_json.specs.View.{items_of}
use Rattle.serde_json.specs.Written.{compact_text}
use Rattle.knit_base.specs.Spelling.{dir_word, needle_text, rack_text, rule_name}
use Rattle.knit_base.specs.declared.rule.Fault.{Fault}
use Rattle.knit_base.specs.declared.yarns.CarrierNo.{CarrierNo}
use Rattle.carriage_model.specs.declared.verdict.Final.{Final}
use Rattle.carriage_model.specs.declared.verdict.LoopFact.{LoopFact}
use Rattle.carriage_model.specs.declared.verdict.Stack.{Stack}
use Rattle.carriage_model.specs.declared.verdict.Verdict.{Verdict}
use Rattle.carriage_model.specs.declared.verdict.Verdict.TheVariants.{Sound, Broken}
use Rattle.carriage_model.specs.Verdict.{held_on}
use Rattle.verdict_report.specs.Carriers.{carriers_of_set, carrier_name_of}
use Rattle.verdict_report.specs.VerdictText.{Text}

-- a list, item by item
abbrev pub list_value : {A : Type 0} → (A → Data) → List A → Data
list_value value items = array (items_of (map value items))

-- a number
abbrev pub count_value : ℕ → Data
count_value n = number (unsigned n)

-- a carrier, by its name
abbrev pub name_value : List Text → CarrierNo → Data
name_value names c = string (carrier_name_of names c)

-- the names of a set of carriers, in the order of the header
abbrev pub set_value : List Text → ℕ → Data
set_value names set = list_value (name_value names) (carriers_of_set (length names) set)

-- a needle, and the lines of its loops in the order of arrival
abbrev pub stack_value : Stack → Data
stack_value stack = object (member (codes "loops") (list_value count_value stack.loops)
    (member (codes "needle") (string (needle_text stack.needle)) no_members))

-- a loop: its direction, line and needle, the lines of the loops that it goes through, and its carriers
abbrev pub loop_value : List Text → LoopFact → Data
loop_value names fact = object (member (codes "dir") (string (dir_word fact.dir))
    (member (codes "line") (count_value fact.line)
    (member (codes "needle") (string (needle_text fact.needle))
    (member (codes "through") (list_value count_value fact.through)
    (member (codes "yarns") (list_value (name_value names) fact.yarns) no_members)))))

-- the loops made, where they are asked for, and the members behind them
abbrev pub with_loops : List Text → Option (List LoopFact) → Members → Members
with_loops names None rest = rest
with_loops names (Some facts) rest = member (codes "made_loops") (list_value (loop_value names) facts) rest

-- what a sound program leaves
abbrev pub sound_value : List Text → Final → Option (List LoopFact) → Data
sound_value names final facts = object (member (codes "held") (count_value (held_on final.stacks))
    (member (codes "hook") (set_value names final.hook)
    (member (codes "in") (set_value names final.ins)
    (member (codes "lines") (count_value final.lines)
    (member (codes "made") (count_value final.made)
    (with_loops names facts
    (member (codes "needles") (list_value stack_value final.stacks)
    (member (codes "rack") (string (rack_text final.rack.0))
    (member (codes "verdict") (string (codes "sound")) no_members)))))))))

-- the line that is at fault, as it is, the rule that it breaks, and the token at which it does
abbrev pub broken_value : List Text → Text → Fault → Option (List LoopFact) → Data
broken_value names line fault facts = object (member (codes "at") (count_value fault.reason.at)
    (member (codes "line") (count_value fault.line)
    (with_loops names facts
    (member (codes "rule") (string (rule_name fault.reason.rule))
    (member (codes "text") (string line)
    (member (codes "verdict") (string (codes "broken")) no_members))))))

-- a verdict, with the line of a fault as it stands in the file
abbrev pub verdict_value : List Text → Text → Verdict → Option (List LoopFact) → Data
verdict_value names line (Sound final) facts = sound_value names final facts
verdict_value names line (Broken fault) facts = broken_value names line fault facts

-- the whole report: the value's compact text, and the end of the line
abbrev pub verdict_json : List Text → Text → Verdict → Option (List LoopFact) → Text
verdict_json names line verdict facts = compact_text (verdict_value names line verdict facts) ++ codes "\n"
