use Rattle.std.proofs.Common.{◌≤◌, take, ◌∙◌, ap, subst, arith}
use Rattle.std.specs.List.{All}
use Rattle.summary_tree.specs.Faces.{length_in}
use Rattle.summary_tree.proofs.RoomBounds.{each_short}
use Rattle.summary_tree.proofs.rooms.Rooms.longest.Goals as goal

pub returns : goal.returns
returns c =
    let rooms = take c.self.inside.len c.self.inside.rooms in
    let long = length_in c.args.list in
    let most = c.length_in.ensures ∙ ap long c.self.invariant.greatest in
    subst (All (λ r. long r ≤ c.length_in.result)) c.self.view_is (each_short c.args.list rooms c.length_in.result (omega (arith, most)))
