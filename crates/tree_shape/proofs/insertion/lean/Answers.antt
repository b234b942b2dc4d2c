use Rattle.std.proofs.Common.{◌≡◌, ◌+◌, ◌≤◌, ◌⊎◌, inl, inr, sym, ◌∙◌, arith, false, nat_le, ℕ}
use Rattle.std.proofs.lemmas.Bool.{lt-leb}
use Rattle.tree_shape.specs.Tree.{height}
use Rattle.tree_shape.specs.Plan.{tree_of_plan, way_through}
use Rattle.tree_shape.specs.declared.node.Side.{Side}
use Rattle.tree_shape.specs.declared.insertion.Way.TheVariants.{Twice}
use Rattle.tree_shape.proofs.Turns.{height_pending, leaned_turned, leaned_is_over, way_over, way_over_turned, set_over}
use Rattle.tree_shape.proofs.insertion.lean.Goals as goal
use Rattle.tree_shape.proofs.insertion.lean.Goals.{in-Twice+else-above-upper, in_default, in-Turned, in_default-way}

pub returns-then-above-upper : goal.returns-then-above-upper
returns-then-above-upper c = λ p before f l.
    let high = height_pending _ p l.pending in
    let tall : nat_le (height (tree_of_plan p)) (height f + 1) ≡ false = lt-leb _ _ (omega (arith, l.high)) in
    rw (leaned_turned c.args.upper.side c.args.upper.node p f tall) (c.turn.ensures p before f l)

pub returns : goal.returns
returns c = λ p before f l.
    let high = height_pending _ p l.pending in
    let low : (height (tree_of_plan p) ≤ height f + 1) ⊎ ((third : Side) (x y : ℕ) → c.args.part.way ≡ Twice third x y → ⊥) =
    elim c.match-part.branch [
      | in-Twice+else-above-upper w ↦ inl (omega (arith, l.high))
      | in_default w ↦ inr w.in_default.not-Twice
    ] in
    let way : c.match-part-2.way' ≡ way_through p =
    elim c.match-part-2.branch [
      | in-Turned w ↦ w.way'-is ∙ sym (way_over_turned _ p l.pending w.in-Turned.is)
      | in_default-way w ↦ w.way'-is ∙ sym (way_over _ p l.pending w.in_default-way.not-Turned)
    ] in
    rw (leaned_is_over c.args.part c.args.upper.side c.args.upper.node p f l.pending low) (set_over _ _ _ p before _ _ _ _ f _ _ _ l c.row_on.ensures c.push.ensures c.above-2.ensures way)
