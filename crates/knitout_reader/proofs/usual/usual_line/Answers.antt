use Rattle.knitout_reader.proofs.UsualLines.{knit-begins, tuck-begins, xfer-begins}
use Rattle.knitout_reader.proofs.usual.usual_line.Goals as goal

pub returns-in-Some : goal.returns-in-Some
returns-in-Some c declared are = knit-begins c.args.profile.now declared c.args.names.now _ _ _ _ _ _ are c.in-Some.ensures (c.in_ok-dir.ensures.operands declared are)

pub returns-in-Some-behind_four : goal.returns-in-Some-behind_four
returns-in-Some-behind_four c declared are = tuck-begins c.args.profile.now declared c.args.names.now _ _ _ _ _ _ are c.in-Some-behind_four.ensures (c.in_ok-dir-2.ensures.operands declared are)

pub returns : goal.returns
returns c declared are = xfer-begins c.args.profile.now declared _ _ _ _ _ are.few c.in_ok-operands.ensures c.in_ok-needle.ensures
