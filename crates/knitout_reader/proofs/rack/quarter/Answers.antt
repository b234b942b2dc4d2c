use Rattle.std.proofs.Common.{arith, sym, ◌∙◌}
use Rattle.std.proofs.lemmas.Bool.{ltb-true, ltb-false}
use Rattle.std.proofs.lemmas.List.Elements.{All-take, All-drop}
use Rattle.knitout_reader.specs.Numbers.{IsDigit}
use Rattle.knitout_reader.proofs.Quarters.{quarter-one, quarter-two, no_quarter}
use Rattle.knitout_reader.proofs.rack.quarter.Goals as goal

pub returns-in-len1 : goal.returns-in-len1
returns-in-len1 c = quarter-one c.args.fraction.now c.quarter_of_hundredths.result c.in-len1.len_at_least c.in-len1.len_below c.quarter_of_hundredths.ensures

pub returns-then-has_value : goal.returns-then-has_value
returns-then-has_value c =
    no_quarter c.args.fraction.now c.in-len2-up.len_at_least (All-take IsDigit _ _ (All-drop IsDigit 2 c.args.fraction.now c.requires))
    (ltb-true 0 _ (sym c.has_value.ensures ∙ c.if-has_value.true))

pub returns-else-has_value : goal.returns-else-has_value
returns-else-has_value c =
    quarter-two c.args.fraction.now c.quarter_of_hundredths-in-len2-up.result c.in-len2-up.len_at_least (All-take IsDigit _ _ (All-drop IsDigit 2 c.args.fraction.now c.requires))
    (omega (arith, ltb-false 0 _ (sym c.has_value.ensures ∙ c.if-has_value.false))) c.quarter_of_hundredths-in-len2-up.ensures
