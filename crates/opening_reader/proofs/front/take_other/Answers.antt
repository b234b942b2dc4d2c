use Rattle.opening_reader.proofs.TakenLines.{saved-told}
use Rattle.opening_reader.proofs.front.take_other.Goals as goal

pub returns-in-Saved : goal.returns-in-Saved
returns-in-Saved c = λ front lines holds is same counted.
    let told = saved-told c.args.wanted.kind c.args.line.now c.in-Saved.is in c.take_piece.ensures front lines c.args.line.now holds is counted told.0 told.1
