use Rattle.std.proofs.Common.{◌+◌, arith}
use Rattle.block_summary.proofs.DraftSteps.{moved_on, goes_on}
use Rattle.block_summary.proofs.draft.Draft.move_on.Goals as goal

pub invariant_of-self : goal.invariant_of-self
invariant_of-self c =
    let inside = c.self.inside in
    moved_on inside.lines inside.made (inside.lines + 1) (inside.made + c.args.loops) inside.kept inside.effect c.then-self-inside.result inside.lasts.lasts inside.lasts.lasts inside.symbols inside.bare
    (omega (arith, c.self.invariant.few, c.requires.one)) c.self.invariant

pub returns : goal.returns
returns c =
    let inside = c.self.inside in
    goes_on inside.lines inside.made c.args.loops inside.kept inside.symbols inside.lasts.lasts inside.effect c.then-self-inside.result c.args.effect.now c.args.self.now c.self.view_is c.then-self-inside.ensures
