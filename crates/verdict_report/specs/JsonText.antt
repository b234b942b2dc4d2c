-- The text of a verdict's value piece by piece, for private clauses. `proofs/CompactText` shows that it is the value's compact text.
use Rattle.std.specs.Prelude.{ℕ, Option, None, Some, List, [], ◌∷◌, ◌++◌, length, flat_map, codes, decimal, unwrap_or, slice_get}
use Rattle.json.specs.Print.{quoted}
use Rattle.knit_base.specs.Spelling.{dir_word, labelled_number, needle_text, rack_text, rule_name}
use Rattle.knit_base.specs.declared.needle.Dir.{Dir}
use Rattle.knit_base.specs.declared.needle.Needle.{Needle}
use Rattle.knit_base.specs.declared.rule.Fault.{Fault}
use Rattle.knit_base.specs.declared.rule.Rule.{Rule}
use Rattle.knit_base.specs.declared.yarns.CarrierNo.{CarrierNo}
use Rattle.carriage_model.specs.declared.verdict.Final.{Final}
use Rattle.carriage_model.specs.declared.verdict.LoopFact.{LoopFact}
use Rattle.carriage_model.specs.declared.verdict.Stack.{Stack}
use Rattle.carriage_model.specs.declared.verdict.Verdict.{Verdict}
use Rattle.carriage_model.specs.declared.verdict.Verdict.TheVariants.{Sound, Broken}
use Rattle.carriage_model.specs.Verdict.{held_on}
use Rattle.verdict_report.specs.Carriers.{carriers_of_set}
use Rattle.verdict_report.specs.VerdictText.{Text}

-- a comma and the text of the item
abbrev pub next_text : {A : Type 0} → (A → Text) → A → Text
next_text text item = codes "," ++ text item

-- the items behind the first
abbrev pub more_text : {A : Type 0} → (A → Text) → List A → Text
more_text text items = flat_map (next_text text) items

-- the items in brackets, with commas between
abbrev pub list_text : {A : Type 0} → (A → Text) → List A → Text
list_text text [] = codes "[]"
list_text text (item ∷ items) = codes "[" ++ (text item ++ (more_text text items ++ codes "]"))

-- a name as JSON has it, where the strings are the names as JSON has them
abbrev pub string_of : List Text → CarrierNo → Text
string_of strings c = unwrap_or (slice_get strings c.0) (codes "\"\"")

-- a list behind its key
abbrev pub list_member : {A : Type 0} → Text → (A → Text) → List A → Text
list_member key text items = key ++ list_text text items

-- the names of a set of carriers, behind their key
abbrev pub set_member : Text → List Text → ℕ → Text
set_member key strings set = list_member key (string_of strings) (carriers_of_set (length strings) set)

-- the needle, behind a list or a number
abbrev pub needle_member : Needle → Text
needle_member needle = codes ",\"needle\":\"" ++ (needle_text needle ++ codes "\"")

-- a needle and its loops
unfoldable pub stack_json : Stack → Text
stack_json stack = list_member (codes "{\"loops\":") decimal stack.loops ++ (needle_member stack.needle ++ codes "}")

-- the first member of a loop
abbrev pub dir_member : Dir → Text
dir_member dir = codes "{\"dir\":\"" ++ (dir_word dir ++ codes "\"")

-- the first three members of a loop
unfoldable pub loop_place : LoopFact → Text
loop_place fact = dir_member fact.dir ++ (labelled_number (codes ",\"line\":") fact.line ++ needle_member fact.needle)

-- a loop
unfoldable pub loop_json : List Text → LoopFact → Text
loop_json strings fact = loop_place fact ++ (list_member (codes ",\"through\":") decimal fact.through
    ++ (list_member (codes ",\"yarns\":") (string_of strings) fact.yarns ++ codes "}"))

-- the loops made, where they are asked for
abbrev pub loops_member : List Text → Option (List LoopFact) → Text
loops_member strings None = codes ""
loops_member strings (Some facts) = list_member (codes ",\"made_loops\":") (loop_json strings) facts

-- the members of a sound verdict before the loops made
abbrev pub sound_front : List Text → Final → Text
sound_front strings final = labelled_number (codes "{\"held\":") (held_on final.stacks) ++ (set_member (codes ",\"hook\":") strings final.hook
    ++ (set_member (codes ",\"in\":") strings final.ins ++ (labelled_number (codes ",\"lines\":") final.lines ++ labelled_number (codes ",\"made\":") final.made)))

-- the members of a sound verdict behind the loops made
abbrev pub sound_back : Final → Text
sound_back final = list_member (codes ",\"needles\":") stack_json final.stacks ++ (codes ",\"rack\":\"" ++ (rack_text final.rack.0 ++ codes "\",\"verdict\":\"sound\"}"))

-- the members of a broken verdict before the loops made
abbrev pub broken_front : Fault → Text
broken_front fault = labelled_number (codes "{\"at\":") fault.reason.at ++ labelled_number (codes ",\"line\":") fault.line

-- the members of a broken verdict behind the loops made
abbrev pub broken_back : Text → Rule → Text
broken_back line rule = codes ",\"rule\":\"" ++ (rule_name rule ++ (codes "\",\"text\":" ++ (quoted line ++ codes ",\"verdict\":\"broken\"}")))

-- the members before the loops made
abbrev pub front_text : List Text → Verdict → Text
front_text strings (Sound final) = sound_front strings final
front_text strings (Broken fault) = broken_front fault

-- the members behind the loops made
abbrev pub back_text : Text → Verdict → Text
back_text line (Sound final) = sound_back final
back_text line (Broken fault) = broken_back line fault.reason.rule

-- the whole line
abbrev pub verdict_json_line : List Text → Text → Verdict → Option (List LoopFact) → Text
verdict_json_line strings line verdict facts = front_text strings verdict ++ (loops_member strings facts ++ (back_text line verdict ++ codes "\n"))
