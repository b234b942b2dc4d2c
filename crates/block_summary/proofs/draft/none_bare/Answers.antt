use Rattle.std.proofs.Common.{None}
use Rattle.std.proofs.lemmas.List.{get_or-replicate}
use Rattle.block_summary.proofs.draft.none_bare.Goals as goal

pub returns : goal.returns
returns c k d within = get_or-replicate 64 k None d within
