use Rattle.std.proofs.Common.{take, subst}
use Rattle.std.specs.List.{All}
use Rattle.summary_compose.specs.Composing.{IsNoGreater}
use Rattle.summary_tree.proofs.RoomBounds.{each_within, no_greater_same}
use Rattle.summary_tree.proofs.rooms.Rooms.greatest.Goals as goal

pub returns : goal.returns
returns c =
    let rooms = take c.self.inside.len c.self.inside.rooms in
    let most = c.self.inside.most in
    subst (All (λ r. IsNoGreater r most)) c.self.view_is (each_within rooms most (subst (λ m. IsNoGreater m most) c.self.invariant.greatest (no_greater_same most)))
