use Rattle.std.proofs.Common.{◌<◌, ap, take, length, subst, sym, arith}
use Rattle.std.proofs.lemmas.List.{length-set, length-take}
use Rattle.tally_tree.specs.Rooms.{most_of}
use Rattle.tally_tree.proofs.MetRooms.{most-push, room_written}
use Rattle.tally_tree.proofs.rooms.Rooms.push.Goals as goal

pub invariant_of-self : goal.invariant_of-self
invariant_of-self c =
    let inside = c.self.inside in
    let few : length (take inside.len inside.rooms) < 73 = subst (λ rooms. length rooms < 73) (sym c.self.view_is) c.requires in
    let place : inside.len < 73 = omega (arith, few, length-take inside.len inside.rooms, c.self.invariant) in
    let longer = room_written inside.rooms inside.len c.args.room (omega (arith, place, c.self.invariant)) in (
      omega (arith, length-set inside.rooms inside.len c.args.room, c.self.invariant),
      omega (arith, place),
      omega (arith, ap most_of longer, most-push (take inside.len inside.rooms) c.args.room, c.max-self-inside.ensures, c.self.invariant),
    )
