use Rattle.std.proofs.Common.{◌≡◌, ◌+◌, ◌≤◌, arith, sym, ◌∙◌}
use Rattle.tree_shape.specs.Tree.{height}
use Rattle.tree_shape.specs.Plan.{tree_of_plan}
use Rattle.tree_shape.proofs.OtherParts.{no_inner, sunk_raised, sunk_over}
use Rattle.tree_shape.proofs.removal.sink.Goals as goal
use Rattle.tree_shape.proofs.removal.sink.Goals.{in-Inner+else-far_height-part, in_default}

pub returns-then-far_height-part : goal.returns-then-far_height-part
returns-then-far_height-part c = λ p before f l.
    let hf = c.height_of-far_height.ensures f l.named l.stands in
    rw (sunk_raised c.args.side c.args.node p f (omega (arith, l.high)))
    (c.raise.ensures p before f (record { child = l.child; high = l.high; listed = l.listed; named = sym c.in-Inner.is ∙ l.named; stands = l.stands }))

pub returns : goal.returns
returns c = λ p before f l.
    let hf = c.height_of-far_height.ensures f l.named l.stands in
    let same : c.match-far.far ≡ c.args.far = elim c.match-far.branch [ in-Inner+else-far_height-part w ↦ w.far-is ∙ sym w.in-Inner.is | in_default w ↦ w.far-is ] in
    let low : height f ≤ height (tree_of_plan p) + 1 = elim c.match-far.branch [
      | in-Inner+else-far_height-part w ↦ omega (arith, l.high)
      | in_default w ↦ omega (arith, no_inner f (λ k e. w.in_default.not-Inner k (l.named ∙ e)))
    ] in
    rw (sunk_over c.args.side c.args.node p f low)
    (c.set_above.ensures c.args.nodes.now p before f (record { child = l.child; high = l.high; listed = l.listed; named = same ∙ l.named; stands = l.stands }) hf)
