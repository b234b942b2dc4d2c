use Rattle.std.proofs.Common.{refl}
use Rattle.opening_reader.proofs.TakenLines.{hold-told, next-told}
use Rattle.opening_reader.proofs.front.take_piece.Goals as goal

pub returns-in-Ok : goal.returns-in-Ok
returns-in-Ok c = λ front lines line holds is counted told follows.
    hold-told front c.args.counted _ lines c.args.text.now c.push.new.self line c.args.piece.now c.args.wanted holds is c.requires.some counted refl refl refl told follows c.requires.line c.requires.short c.in-Ok.ensures.ok

pub returns-in-Err : goal.returns-in-Err
returns-in-Err c = λ front lines line holds is counted told follows. next-told front c.args.counted lines c.args.text.now line c.args.piece.now c.args.wanted holds is counted told
