use Rattle.std.proofs.Common.{[]}
use Rattle.face_data.specs.Conditions.{ask_of}
use Rattle.block_summary.proofs.KeptConditions.{plain_unsized}
use Rattle.block_summary.proofs.draft.Draft.ask.Goals as goal

pub keep_if_silent-requires-clause-nameless : goal.keep_if_silent-requires-clause-nameless
keep_if_silent-requires-clause-nameless c = plain_unsized (ask_of [] c.args.cond) c.requires.plain
