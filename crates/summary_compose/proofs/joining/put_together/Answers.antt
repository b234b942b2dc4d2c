-- The first face's names have room, and each room stays.
use Rattle.std.proofs.Common.{arith}
use Rattle.summary_compose.proofs.Checks.{named_size}
use Rattle.summary_compose.proofs.joining.put_together.Goals as goal

pub begin-requires-clause-name_room : goal.begin-requires-clause-name_room
begin-requires-clause-name_room c =
    let size = named_size c.args.a.now.names.now c.args.a.now.checks.now c.requires.composes.named in
    omega (arith, size, c.requires.room.1.names, c.requires.room.2.names)

pub returns-in-Through-clause-keeps : goal.returns-in-Through-clause-keeps
returns-in-Through-clause-keeps c = λ room h.
    c.go_on.ensures.keeps room
    (record {
      checks = omega (arith, h.checks, c.begin.ensures.check_room);
      names = omega (arith, h.names, c.begin.ensures.name_room);
      index = h.index;
      changes = omega (arith, h.changes, c.clear.ensures.change_room);
      segs = omega (arith, h.segs, c.clear.ensures.seg_room);
      places = h.places;
      lasts = omega (arith, h.lasts, c.clear-2.ensures.room);
    })
