use Rattle.std.proofs.Common.{arith}
use Rattle.tally_tree.proofs.MetRooms.{all_met}
use Rattle.tally_tree.proofs.spares.Spares.reserve.Goals as goal

pub returns-clause-ok : goal.returns-clause-ok
returns-clause-ok c =
    all_met _ c.args.need.now (omega (arith, c.in_ok-self-inside.ensures.many, c.len.ensures, c.len-2.ensures, c.max-many.ensures)) (omega (arith, c.most.ensures, c.max-room.ensures))
