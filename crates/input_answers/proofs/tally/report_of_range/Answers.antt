use Rattle.std.proofs.Common.{◌∙◌, length, ap, sym}
use Rattle.tally_tree.specs.Laws.{with_each_long}
use Rattle.input_answers.proofs.tally.report_of_range.Goals as goal

pub tally_of-requires : goal.tally_of-requires
tally_of-requires g c = with_each_long _ _ _ c.in_ok-tally.ensures.tally.2 ∙ ap (λ s. length s.declared) (sym c.setting.ensures)
