use Rattle.std.proofs.Common.{refl, sym, ◌∙◌}
use Rattle.tree_shape.proofs.Turns.{two_steps, own_turn, other_turn, back_again}
use Rattle.tree_shape.proofs.insertion.turn_twice.Goals as goal

pub returns-then-same : goal.returns-then-same
returns-then-same c = λ plan before beside l.
    let two = two_steps _ _ _ _ _ l.pending c.requires.two in
    rw (c.share.ensures.root, back_again c.args.upper.side c.opposite.result c.opposite.ensures)
    (own_turn _ _ _ _ _ _ _ _ _ _ _ _ _ _ _ _ _ _ _ _ _ _ _ two l c.requires.across (sym c.same.ensures ∙ c.if-same.true)
    (record { popped = c.pop-lower.ensures; near_is = refl; b_is = refl }) c.opposite.ensures refl refl refl c.share.ensures.listed refl refl)

pub returns-else-same : goal.returns-else-same
returns-else-same c = λ plan before beside l.
    let two = two_steps _ _ _ _ _ l.pending c.requires.two in
    rw (c.share-else-same.ensures.root, ← c.opposite.ensures)
    (other_turn _ _ _ _ _ _ _ _ _ _ _ _ _ _ _ _ _ _ _ _ _ _ _ two l c.requires.across (sym c.same.ensures ∙ c.if-same.false)
    (record { popped = c.pop-lower.ensures; near_is = refl; b_is = refl }) c.opposite.ensures refl refl refl c.share-else-same.ensures.listed refl refl)
