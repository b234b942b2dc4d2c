use Rattle.std.proofs.Common.{sym, ◌∙◌}
use Rattle.std.proofs.lemmas.List.Elements.{All-more}
use Rattle.knitout_reader.proofs.TokenRuns.{Blank}
use Rattle.knitout_reader.proofs.tokens.count_blanks.Goals as goal

pub loop-at-preserved : goal.loop-at-preserved
loop-at-preserved c = All-more Blank _ _ 0 c.loop-at-test.true c.loop-at.invariant (sym c.is_blank.ensures ∙ c.if-not-is_blank.false)
