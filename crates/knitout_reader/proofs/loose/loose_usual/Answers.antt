use Rattle.knitout_reader.proofs.LooseLines.{knit-says, tuck-says, xfer-says}
use Rattle.knitout_reader.proofs.loose.loose_usual.Goals as goal

pub returns-in-Some-clause-says : goal.returns-in-Some-clause-says
returns-in-Some-clause-says c declared are = knit-says c.args.profile.now declared _ _ _ _ _ _ c.in-Some.ensures (c.in_ok-dir.ensures.operands declared are)

pub returns-in-Some-behind_four-clause-says : goal.returns-in-Some-behind_four-clause-says
returns-in-Some-behind_four-clause-says c declared are =
    tuck-says c.args.profile.now declared _ _ _ _ _ _ c.in-Some-behind_four.ensures (c.in_ok-dir-2.ensures.operands declared are)

pub returns-clause-says : goal.returns-clause-says
returns-clause-says c declared are = xfer-says c.args.profile.now declared _ _ _ _ _ c.in_ok-operands.ensures c.in_ok-needle.ensures.needles
