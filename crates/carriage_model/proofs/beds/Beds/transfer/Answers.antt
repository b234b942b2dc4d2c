use Rattle.std.proofs.Common.{length, ap, ◌∙◌, arith}
use Rattle.carriage_model.specs.Beds.{BedsHold, loops_at}
use Rattle.carriage_model.proofs.BedChanges.{exchange-transfers, moved-transfers, returned-holds, other_stack, still-on, nil_from_test}
use Rattle.carriage_model.proofs.beds.Beds.transfer.Goals as goal

pub returns-then-loops_on-eq0-clause-ok : goal.returns-then-loops_on-eq0-clause-ok
returns-then-loops_on-eq0-clause-ok c =
    exchange-transfers c.args.self.now c.exchange.new.self c.args.n c.args.n2 c.requires.sides (nil_from_test (loops_at c.args.self.now c.args.n2) c.loops_on.result c.loops_on.ensures c.if-loops_on-eq0.true) c.exchange.ensures

pub receive-requires-clause-on : goal.receive-requires-clause-on
receive-requires-clause-on c = still-on c.args.self.now c.take-moved.new.self c.args.n2.at c.take-moved.ensures.left.same c.requires.to

pub receive-requires-clause-room : goal.receive-requires-clause-room
receive-requires-clause-room c =
    omega (
      arith,
      c.requires.room,
      ap length (other_stack c.args.self.now c.take-moved.new.self c.args.n c.args.n2 c.requires.sides c.take-moved.ensures.left),
      ap length c.as_slice.ensures.items,
      ap length c.take-moved.ensures.loops,
    )

pub give_room-requires : goal.give_room-requires
give_room-requires c =
    let received : BedsHold c.take-moved.new.self c.receive.new.self _ = c.in-Ok.ensures.ok in
    still-on c.take-moved.new.self c.receive.new.self c.args.n.at received.same (still-on c.args.self.now c.take-moved.new.self c.args.n.at c.take-moved.ensures.left.same c.requires.from)

pub returns-in-Ok-clause-ok : goal.returns-in-Ok-clause-ok
returns-in-Ok-clause-ok c =
    moved-transfers c.args.self.now c.take-moved.new.self c.receive.new.self c.give_room.new.self c.args.n c.args.n2 c.as_slice.result.now c.requires.sides
    c.take-moved.ensures.left (c.as_slice.ensures.items ∙ c.take-moved.ensures.loops) c.in-Ok.ensures.ok c.give_room.ensures

pub put-requires : goal.put-requires
put-requires c =
    let received : BedsHold c.take-moved.new.self c.receive.new.self _ = c.in-Err.ensures.err in
    still-on c.take-moved.new.self c.receive.new.self c.args.n.at received.same (still-on c.args.self.now c.take-moved.new.self c.args.n.at c.take-moved.ensures.left.same c.requires.from)

pub returns-in-Err-clause-err : goal.returns-in-Err-clause-err
returns-in-Err-clause-err c =
    returned-holds c.args.self.now c.take-moved.new.self c.receive.new.self c.put.new.self c.args.n _ c.take-moved.ensures.left c.take-moved.ensures.loops c.in-Err.ensures.err c.put.ensures
