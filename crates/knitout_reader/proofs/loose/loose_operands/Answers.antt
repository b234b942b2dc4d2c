use Rattle.std.proofs.Common.{sym, ◌∙◌}
use Rattle.knitout_reader.proofs.LooseLines.{operands-line}
use Rattle.knitout_reader.proofs.loose.loose_operands.Goals as goal

pub returns-clause-operands : goal.returns-clause-operands
returns-clause-operands c declared are =
    operands-line c.args.profile.now declared c.args.text.now _ _ _ _ _ c.in_ok-dir.dir c.in_ok-needle.needle c.in_ok-c.c c.in_ok-dir.ensures.line c.in_ok-needle.ensures.needle
    (sym c.is_slider.ensures ∙ c.if-is_slider.false) c.in_ok-name.ensures.line (c.in_ok-c.ensures.name declared are) c.in_ok-end.ensures.line
