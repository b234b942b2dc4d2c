use Rattle.std.proofs.Common.{◌≤◌, length, sym}
use Rattle.std.proofs.Math.Path.{subst₂}
use Rattle.tree_shape.specs.Values.{part}
use Rattle.tally_tree.specs.Leaves.{tally_at}
use Rattle.tally_tree.specs.Needles.{merged_needles}
use Rattle.tally_tree.proofs.Kept.{found_is}
use Rattle.tally_tree.proofs.MetRooms.{rest_met, sum_has_room}
use Rattle.tally_tree.proofs.store.TallyStoreValues.compose.Goals as goal

pub join-requires-clause-spare : goal.join-requires-clause-spare
join-requires-clause-spare g c =
    let self = c.args.self.now in
    let p = c.requires.parts in
    let first = found_is c.tally.result c.in-Some-Some.a (part (tally_at self.leaves.items) (tally_at self.nodes.items) c.args.row.left) p.0 c.in-Some-Some.is-0 c.tally.ensures p.2 in
    let second = found_is c.tally-2.result c.in-Some-Some.b (part (tally_at self.leaves.items) (tally_at self.nodes.items) c.args.row.right) p.1 c.in-Some-Some.is-1 c.tally-2.ensures p.3 in
    let enough = sum_has_room self.spares p.0 p.1 p.5 p.6 p.4 p.7 p.8 in
    (self.spares.room, c.take-sum.ensures.spare, subst₂ (λ a b. length (merged_needles a.needles b.needles) ≤ self.spares.room) (sym first) (sym second) enough)

pub returns-clause-room : goal.returns-clause-room
returns-clause-room g c a b r rest left right within met = rest_met c.args.self.now.spares c.take-sum.new.self r rest c.take-sum.ensures.many c.take-sum.ensures.room met
