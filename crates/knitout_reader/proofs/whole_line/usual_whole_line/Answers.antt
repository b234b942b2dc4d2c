use Rattle.knitout_reader.proofs.WholeLines.{whole_knit, whole_tuck, whole_xfer}
use Rattle.knitout_reader.proofs.whole_line.usual_whole_line.Goals as goal

pub returns-in-Some : goal.returns-in-Some
returns-in-Some c =
    let all = whole_knit c.args.profile.now c.args.declared.now c.args.line.now _ _ _ _ c.in-Some.ensures c.in_ok-dir.ensures.operands in
    record { last = c.in_ok-dir.ensures.last; reads = all.0; lawful = all.1; only = all.2 }

pub returns-in-Some-behind_four : goal.returns-in-Some-behind_four
returns-in-Some-behind_four c =
    let all = whole_tuck c.args.profile.now c.args.declared.now c.args.line.now _ _ _ _ c.in-Some-behind_four.ensures c.in_ok-dir-2.ensures.operands in
    record { last = c.in_ok-dir-2.ensures.last; reads = all.0; lawful = all.1; only = all.2 }

pub returns : goal.returns
returns c =
    let all = whole_xfer c.args.profile.now c.args.declared.now c.args.line.now _ _ _ c.in_ok-operands.ensures c.in_ok-needle.ensures in
    record { last = c.requires; reads = all.0; lawful = all.1; only = all.2 }
