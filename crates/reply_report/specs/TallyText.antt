-- The report of a tally.
use Rattle.std.specs.Prelude.{ℕ, List, [], ◌∷◌, ◌++◌, codes, flat_map}
use Rattle.knit_base.specs.Spelling.{labelled_number, needle_text}
use Rattle.knit_base.specs.declared.needle.Needle.{Needle}
use Rattle.tally_tree.specs.Tallies.{TallyCounts}
use Rattle.verdict_report.specs.VerdictText.{Text}

-- numbers, each behind its label
abbrev pub labelled_each : List Text → List ℕ → Text
labelled_each [] numbers = []
labelled_each (label ∷ labels) [] = []
labelled_each (label ∷ labels) (n ∷ numbers) = labelled_number label n ++ labelled_each labels numbers

-- the names of the classes of operations, in the order of their numbers
abbrev pub class_labels : List Text
class_labels = codes " form " ∷ codes " split " ∷ codes " move " ∷ codes " drop " ∷ []

-- the first line: the places, how many lines, and how many operations of each class
abbrev pub tally_line : ℕ → ℕ → TallyCounts → Text
tally_line from to v = labelled_number (codes "tally ") from ++ (labelled_number (codes "-") to ++ (labelled_number (codes " lines ") v.lines ++ (labelled_each class_labels v.ops ++ codes "\n")))

-- how many lines form loops with the carrier of this name
abbrev pub carrier_line_text : Text → ℕ → Text
carrier_line_text name n = codes "with " ++ (name ++ (labelled_number (codes ": ") n ++ codes "\n"))

-- the same of each carrier
abbrev pub with_lines : List Text → List ℕ → Text
with_lines [] numbers = []
with_lines (name ∷ names) [] = []
with_lines (name ∷ names) (n ∷ numbers) = carrier_line_text name n ++ with_lines names numbers

-- the needles, each behind a space
abbrev pub spaced_needles : List Needle → Text
spaced_needles needles = flat_map (λ (n : Needle). codes " " ++ needle_text n) needles

-- the report of a tally of the blocks from one place to another, for carriers of these names
abbrev pub tally_text : ℕ → ℕ → List Text → TallyCounts → Text
tally_text from to names v = tally_line from to v ++ (with_lines names v.with_each ++ (codes "needles" ++ (spaced_needles v.needles ++ codes "\n")))
