-- The lines of the passes of a program.
use Rattle.std.specs.Prelude.{ℕ, ◌-◌, Option, None, Some, List, [], ◌∷◌, ◌++◌, length, flat_map, option_map, unwrap_or, slice_get, codes}
use Rattle.knit_base.specs.Spelling.{dir_word, labelled_number}
use Rattle.knit_base.specs.declared.needle.Dir.{Dir}
use Rattle.knit_base.specs.declared.yarns.CarrierNo.{CarrierNo}
use Rattle.pass_grouping.specs.declared.operation.Class.{Class}
use Rattle.pass_grouping.specs.declared.operation.Class.TheVariants.{Form, Split, Move, Drop}
use Rattle.pass_grouping.specs.declared.operation.PassOp.{PassOp}
use Rattle.pass_grouping.specs.declared.certificate.Window.{Window}
use Rattle.pass_grouping.specs.declared.fact.PassFact.{PassFact}
use Rattle.pass_grouping.specs.Facts.{last_of, way_of}
use Rattle.pass_grouping.specs.Groupings.{passes_from}
use Rattle.verdict_report.specs.VerdictText.{Text, names_text}

-- the name of a class
abbrev pub class_word : Class → Text
class_word Form = codes "form"
class_word Split = codes "split"
class_word Move = codes "move"
class_word Drop = codes "drop"

-- the carriers of a pass that uses some
abbrev pub carriers_text : List Text → Class → List CarrierNo → Text
carriers_text names Form cs = codes " with" ++ names_text names cs
carriers_text names Split cs = codes " with" ++ names_text names cs
carriers_text names Move cs = []
carriers_text names Drop cs = []

-- two lines, the first and the last of something
abbrev pub range_text : Text → ℕ → ℕ → Text
range_text label first last = labelled_number label first ++ labelled_number (codes "-") last

-- a class and a direction
abbrev pub kind_words : Class → Dir → Text
kind_words class way = codes " " ++ (class_word class ++ (codes " " ++ dir_word way))

-- the class and the direction of a pass with these ends
abbrev pub kind_text : PassOp → PassOp → Text
kind_text first last = kind_words first.class (way_of first.dir first.place last.place)

-- the line of a pass with these ends and so many operations
abbrev pub ends_text : List Text → PassOp → PassOp → ℕ → Text
ends_text names first last count =
    range_text (codes "pass ") first.line last.line ++ (kind_text first last ++ (labelled_number (codes " ops ") count ++ (carriers_text names first.class first.yarns ++ codes "\n")))

-- the line of a pass with these operations
abbrev pub pass_text : List Text → List PassOp → Text
pass_text names [] = []
pass_text names (first ∷ more) = ends_text names first (last_of first more) (length (first ∷ more))

-- the line of the operation at this place
abbrev pub line_at : List PassOp → ℕ → ℕ
line_at ops i = unwrap_or (option_map (λ (op : PassOp). op.line) (slice_get ops i)) 0

-- the line of a window
abbrev pub window_text : List PassOp → Window → Text
window_text ops window = range_text (codes "window ") (line_at ops window.from) (line_at ops window.to) ++ codes "\n"

-- how many passes, operations and windows there are, which were checked
abbrev pub counts_text : ℕ → ℕ → ℕ → Text
counts_text passes operations windows =
    labelled_number (codes "passes ") passes ++ (labelled_number (codes " operations ") operations ++ (labelled_number (codes " windows ") windows ++ codes " checked\n"))

-- the whole report: the counts, a line for each pass, and a line for each window
abbrev pub passes_text : List Text → List PassOp → List ℕ → List Window → Text
passes_text names ops starts windows =
    counts_text (length starts) (length ops) (length windows) ++ (flat_map (pass_text names) (passes_from ops starts) ++ flat_map (window_text ops) windows)

-- the line of a pass of which this is told
abbrev pub fact_text : List Text → PassFact → Text
fact_text names fact =
    range_text (codes "pass ") fact.first_line fact.last_line
    ++ (kind_words fact.class fact.way ++ (labelled_number (codes " ops ") fact.count ++ (carriers_text names fact.class fact.yarns ++ codes "\n")))

-- the line of the window from the pass before, if there is one, to the pass that begins at this line
abbrev pub window_before : Option ℕ → ℕ → Text
window_before None line = []
window_before (Some first) line = range_text (codes "window ") first line ++ codes "\n"

-- a line for the window from each pass to the next
abbrev pub windows_behind : Option ℕ → List PassFact → Text
windows_behind before [] = []
windows_behind before (fact ∷ facts) = window_before before fact.first_line ++ windows_behind (Some fact.first_line) facts

abbrev pub windows_told : List PassFact → Text
windows_told = windows_behind None

-- the whole report on passes of which this is told: it is `passes_text`, where the windows lead from a start to the next
abbrev pub told_text : List Text → ℕ → List PassFact → Text
told_text names operations facts =
    counts_text (length facts) operations (length facts - 1) ++ (flat_map (fact_text names) facts ++ windows_told facts)
