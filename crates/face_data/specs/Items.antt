-- The items of a summary, and how many a good one can have.
use Rattle.std.specs.Prelude.{ℕ, ◌+◌, ◌-◌, ◌*◌, List, length, Option, Some, None, count_ones}
use Rattle.std.specs.List.{sum_by}
use Rattle.face_data.specs.declared.face.Effect.{Effect}
use Rattle.face_data.specs.declared.face.Ending.{Ending}
use Rattle.face_data.specs.declared.face.Ending.TheVariants.{Through, Broken}
use Rattle.face_data.specs.Conditions.{Ask}
use Rattle.face_data.specs.Conditions.Ask.{size_at_most}
use Rattle.face_data.specs.Segments.{Changed}
use Rattle.face_data.specs.Summaries.{AskedCondition, Summary}

-- a condition, and the needles that it names
abbrev pub ask_items : Ask → ℕ
ask_items (size_at_most names most) = 1 + length names
ask_items ask = 1

-- the checks and their needles
abbrev pub check_items : List AskedCondition → ℕ
check_items checks = sum_by (λ (c : AskedCondition). ask_items c.ask) checks

-- the changes and their segments
abbrev pub change_items : List Changed → ℕ
change_items changes = sum_by (λ (c : Changed). 1 + length c.1) changes

-- a change of a value, where there is one
abbrev pub set_items : {X : Type 0} → Option X → ℕ
set_items None = 0
set_items (Some x) = 1

-- each carrier that came or went, and the changes of rack and hook
abbrev pub effect_items : Effect → ℕ
effect_items effect = count_ones effect.came + count_ones effect.went + set_items effect.rack + set_items effect.hook

-- the ending's own: the fault at which a block breaks is one
abbrev pub ending_items : Ending → ℕ
ending_items (Through effect) = effect_items effect
ending_items (Broken fault) = 1

-- all items of a summary
abbrev pub items : Summary → ℕ
items summary = check_items summary.checks + change_items summary.changes + length summary.lasts + ending_items summary.ending

-- how many there can be for so many carriers, a limit on the loops of a needle, and so many needles
abbrev pub most_items : ℕ → ℕ → ℕ → ℕ
most_items carriers limit needles =
    5 * carriers + 4 + (2 * needles - 1) * (limit + 1) * (needles + 1) + (limit + 2) * needles
