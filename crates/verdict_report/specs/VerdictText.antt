-- The lines of a verdict as text.
use Rattle.std.specs.Prelude.{ℕ, ℤ, Option, None, Some, List, ◌++◌, length, flat_map, codes, decimal}
use Rattle.knit_base.specs.Spelling.{dir_word, labelled_number, needle_text, rack_text, rule_name}
use Rattle.knit_base.specs.declared.rule.Fault.{Fault}
use Rattle.knit_base.specs.declared.rule.Rule.{Rule}
use Rattle.knit_base.specs.declared.yarns.CarrierNo.{CarrierNo}
use Rattle.carriage_model.specs.declared.verdict.Brief.{Brief}
use Rattle.carriage_model.specs.declared.verdict.Brief.TheVariants as brief
use Rattle.carriage_model.specs.declared.verdict.Final.{Final}
use Rattle.carriage_model.specs.declared.verdict.LoopFact.{LoopFact}
use Rattle.carriage_model.specs.declared.verdict.Stack.{Stack}
use Rattle.carriage_model.specs.declared.verdict.Verdict.{Verdict}
use Rattle.carriage_model.specs.declared.verdict.Verdict.TheVariants.{Sound, Broken}
use Rattle.carriage_model.specs.Verdict.{held_on}
use Rattle.verdict_report.specs.Carriers.{carriers_of_set, carrier_name_of}

-- a text, as its bytes
abbrev pub Text : Type 0
Text = List ℕ

-- a space and the name of the carrier
abbrev pub name_word : List Text → CarrierNo → Text
name_word names c = codes " " ++ carrier_name_of names c

-- a space and the name of each carrier
abbrev pub names_text : List Text → List CarrierNo → Text
names_text names carriers = flat_map (name_word names) carriers

-- a space and the number of the line
abbrev pub line_word : ℕ → Text
line_word line = codes " " ++ decimal line

-- a space and the number of each line
abbrev pub lines_text : List ℕ → Text
lines_text lines = flat_map line_word lines

-- what a sound program leaves, in short: its lines, the loops made and held, and the rack in quarters
abbrev pub sound_brief : ℕ → ℕ → ℕ → ℤ → Text
sound_brief lines made held rack =
    labelled_number (codes "sound lines ") lines ++ (labelled_number (codes " made ") made ++ (labelled_number (codes " held ") held ++ (codes " rack " ++ rack_text rack)))

-- the name of the rule, behind its label
abbrev pub rule_word : Rule → Text
rule_word rule = codes " rule " ++ rule_name rule

-- the line that is at fault, the rule that it breaks, and the token at which it does
abbrev pub broken_brief : Fault → Text
broken_brief fault = labelled_number (codes "broken line ") fault.line ++ (rule_word fault.reason.rule ++ labelled_number (codes " at ") fault.reason.at)

-- a verdict in short
abbrev pub brief_text : Brief → Text
brief_text (brief.Sound lines made held rack) = sound_brief lines made held rack.0
brief_text (brief.Broken fault) = broken_brief fault

-- the line of a set of carriers, which begins with this label
abbrev pub set_text : Text → List Text → ℕ → Text
set_text label names set = label ++ (names_text names (carriers_of_set (length names) set) ++ codes "\n")

-- the line of a needle that holds loops
abbrev pub stack_text : Stack → Text
stack_text stack = needle_text stack.needle ++ (codes ":" ++ (lines_text stack.loops ++ codes "\n"))

-- the line that made the loop, its needle and its direction
abbrev pub loop_place_text : LoopFact → Text
loop_place_text fact = labelled_number (codes "loop ") fact.line ++ (codes " on " ++ (needle_text fact.needle ++ (codes " " ++ dir_word fact.dir)))

-- the line of a loop: its place, its carriers as they are written there, and the loops that it goes through
abbrev pub loop_text : List Text → LoopFact → Text
loop_text names fact = loop_place_text fact ++ (codes " with" ++ (names_text names fact.yarns ++ (codes " through" ++ (lines_text fact.through ++ codes "\n"))))

-- the lines of the loops made, where they are asked for
abbrev pub loops_text : List Text → Option (List LoopFact) → Text
loops_text names None = codes ""
loops_text names (Some facts) = flat_map (loop_text names) facts

-- what the program leaves, with the carriers and the loops in place
abbrev pub sound_text : List Text → Final → Text
sound_text names final =
    sound_brief final.lines final.made (held_on final.stacks) final.rack.0 ++ (codes "\n" ++ (set_text (codes "in:") names final.ins
    ++ (set_text (codes "hook:") names final.hook ++ flat_map stack_text final.stacks)))

-- the broken rule, and the line as it is
abbrev pub broken_text : Text → Fault → Text
broken_text line fault = broken_brief fault ++ (codes "\n> " ++ (line ++ codes "\n"))

-- the end of the program or its fault, of which the line is given
abbrev pub end_text : List Text → Text → Verdict → Text
end_text names line (Sound final) = sound_text names final
end_text names line (Broken fault) = broken_text line fault

-- the whole report
abbrev pub verdict_text : List Text → Text → Verdict → Option (List LoopFact) → Text
verdict_text names line verdict facts = end_text names line verdict ++ loops_text names facts
