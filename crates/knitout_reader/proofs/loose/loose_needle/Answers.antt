use Rattle.knitout_reader.specs.declared.number.TheConstants.{FAR}
use Rattle.knitout_reader.proofs.LooseLines.{needle-front}
use Rattle.knitout_reader.proofs.loose.loose_needle.Goals as goal

pub returns-clause-needle : goal.returns-clause-needle
returns-clause-needle c = needle-front FAR c.args.profile.now c.args.text.now _ _ _ _ c.in_ok-token.ensures.needle c.in_ok-needle.ensures.on
