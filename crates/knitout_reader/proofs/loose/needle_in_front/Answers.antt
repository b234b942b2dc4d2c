use Rattle.std.proofs.Common.{lit<}
use Rattle.knitout_reader.specs.declared.number.TheConstants.{FAR}
use Rattle.knitout_reader.proofs.LooseLines.{needle-token}
use Rattle.knitout_reader.proofs.loose.needle_in_front.Goals as goal

pub returns-clause-needle : goal.returns-clause-needle
returns-clause-needle c = needle-token FAR c.args.text.now _ _ c.in_ok-bed.bed _ (lit< tt) c.in_ok-bed.ensures c.in_ok-at.ensures.number
