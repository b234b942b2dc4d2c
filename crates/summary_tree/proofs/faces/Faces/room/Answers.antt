use Rattle.std.proofs.Common.{◌≡◌, Some, None, rules}
use Rattle.std.specs.Prelude.{slice_index_or}
use Rattle.summary_tree.proofs.faces.Faces.room.Goals as goal

pub room-requires : goal.room-requires
room-requires c =
    let here : slice_index_or c.self.inside.entries.items c.args.at None ≡ Some c.in-Some-slot.entry = search rules in
    c.self.invariant.packed c.args.at c.in-Some-slot.entry here
