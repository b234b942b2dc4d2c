use Rattle.std.proofs.Common.{sym, ◌∙◌}
use Rattle.std.proofs.lemmas.List.Elements.{All-more}
use Rattle.knitout_reader.proofs.TokenRuns.{Plain}
use Rattle.knitout_reader.proofs.tokens.count_token_bytes.Goals as goal

pub loop-at-preserved : goal.loop-at-preserved
loop-at-preserved c = All-more Plain _ _ 0 c.loop-at-test.true c.loop-at.invariant (sym c.is_blank.ensures ∙ c.if-is_blank.false)
