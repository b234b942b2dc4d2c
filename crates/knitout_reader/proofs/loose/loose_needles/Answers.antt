use Rattle.std.proofs.Common.{sym, ◌∙◌}
use Rattle.knitout_reader.proofs.LooseLines.{needles-line, none-found}
use Rattle.knitout_reader.proofs.loose.loose_needles.Goals as goal

pub returns-clause-needles : goal.returns-clause-needles
returns-clause-needles c =
    needles-line c.args.profile.now c.args.text.now _ _ _ _ _ c.in_ok-needle.needle c.in_ok-needle2.needle2 c.in_ok-first.ensures.line c.in_ok-needle.ensures.needle c.in_ok-second.ensures.line
    c.in_ok-needle2.ensures.needle c.in_ok-end.ensures.line (sym c.opposite_rule.ensures ∙ none-found c.opposite_rule.result (sym c.is_some.ensures ∙ c.if-is_some.false))
