use Rattle.std.proofs.Common.{◌≡◌, subst, arith}
use Rattle.tree_shape.specs.Tree.{height}
use Rattle.tree_shape.specs.Parents.{parents_of, IsClimb}
use Rattle.tree_shape.proofs.Climbs.{begun, arrived}
use Rattle.tree_shape.proofs.climbing.climbed.Goals as goal

pub height_of-i-end-requires : goal.height_of-i-end-requires
height_of-i-end-requires c = (c.requires.0, c.requires.2.sound.named, c.requires.2.sound.stands)

pub step_up-climb-requires : goal.step_up-climb-requires
step_up-climb-requires c = (c.requires.0, c.args.number, c.loop-i._i, c.requires.2, c.loop-i.invariant.climb c.requires.0 c.requires.1 c.requires.2 c.requires.3)

pub loop-i-init : goal.loop-i-init
loop-i-init c = record { climb = λ whole at w e. begun whole at c.args.number e }

pub loop-i-preserved : goal.loop-i-preserved
loop-i-preserved c = record { climb = λ whole at w e. c.step_up-climb.ensures whole c.args.number c.loop-i._i w (c.loop-i.invariant.climb whole at w e) }

pub returns : goal.returns
returns c = λ whole at w e.
    let high : c.loop-i._i ≡ height whole = omega (arith, c.loop-i-test.false, c.loop-i.auto._i-end, c.height_of-i-end.ensures whole w.sound.named w.sound.stands) in
    arrived c.args.nodes.now (parents_of c.args.parents.now) c.args.root whole c.args.number c.loop-i.climb w (subst (λ n. IsClimb whole c.args.number n c.loop-i.climb) high (c.loop-i.invariant.climb whole at w e))
