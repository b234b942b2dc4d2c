use Rattle.std.proofs.Common.{arith}
use Rattle.knitout_reader.proofs.LooseLines.{says-begins}
use Rattle.knitout_reader.proofs.loose.loose_line.Goals as goal

pub returns : goal.returns
returns c declared are =
    let blanks = c.behind_blanks.ensures.blanks in
    says-begins c.args.profile.now declared c.args.text.now blanks.0 _ _ c.in_ok-usual.usual 4096 are.few blanks.1 blanks.2 (omega arith) (c.in_ok-usual.ensures.says declared are)
