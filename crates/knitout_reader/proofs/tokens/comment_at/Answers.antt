use Rattle.std.proofs.Common.{sym, ◌∙◌}
use Rattle.knitout_reader.proofs.TokenRuns.{no_semicolon}
use Rattle.knitout_reader.proofs.tokens.comment_at.Goals as goal

pub returns-then-not-contains : goal.returns-then-not-contains
returns-then-not-contains c = no_semicolon c.args.line.now (sym c.contains.ensures.value ∙ c.if-not-contains.true)
