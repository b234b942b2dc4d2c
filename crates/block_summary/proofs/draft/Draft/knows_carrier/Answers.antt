use Rattle.std.proofs.Common.{sym, ◌∙◌}
use Rattle.block_summary.proofs.draft.Draft.knows_carrier.Goals as goal

pub returns : goal.returns
returns c test = c.known_in.ensures c.args.c (sym c.is_in_set.ensures ∙ test)
