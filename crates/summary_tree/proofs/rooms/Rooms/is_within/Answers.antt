use Rattle.std.proofs.Common.{take, sym, subst}
use Rattle.std.specs.List.{All}
use Rattle.summary_compose.specs.Composing.{IsNoGreater}
use Rattle.summary_tree.proofs.RoomBounds.{each_within, greatest_within}
use Rattle.summary_tree.proofs.rooms.Rooms.is_within.Goals as goal

pub returns : goal.returns
returns c =
    let rooms = take c.self.inside.len c.self.inside.rooms in
    let bound = c.args.scratch.now.room in (
      λ e. subst (All (λ r. IsNoGreater r bound)) c.self.view_is (each_within rooms bound (subst (λ m. IsNoGreater m bound) c.self.invariant.greatest (c.meets.ensures.0 e))),
      λ all. c.meets.ensures.1 (subst (λ m. IsNoGreater m bound) (sym c.self.invariant.greatest) (greatest_within rooms bound (subst (All (λ r. IsNoGreater r bound)) (sym c.self.view_is) all))),
    )
