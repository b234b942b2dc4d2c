use Rattle.std.proofs.Common.{◌≡◌, Some, ap, arith, to_z, of_z, w32, refl, ◌∙◌}
use Rattle.std.proofs.lemmas.Int.{ints}
use Rattle.knit_base.specs.Usual.{usual_read}
use Rattle.pass_grouping.specs.Operations.{operation_of}
use Rattle.pass_grouping.proofs.Tallies.{tallied-more}
use Rattle.pass_grouping.proofs.UsualOperations.{usual-rack, usual-stretch, usual-within}
use Rattle.pass_grouping.proofs.tally.Tally.take_usual.Goals as goal

pub add-requires-clause-few : goal.add-requires-clause-few
add-requires-clause-few c =
    let has = c.requires.tally.2 in
    omega (arith, has.growing.operations, has.listed.few, has.listed.lines, c.requires.lines)

pub add-requires-clause-growing : goal.add-requires-clause-growing
add-requires-clause-growing c = (_, c.requires.tally.2.growing)

pub returns-clause-ok : goal.returns-clause-ok
returns-clause-ok c = λ first reads has.
    let rack : to_z w32 (of_z w32 c.args.self.now.rack) ≡ c.args.self.now.rack = omega (arith, ints, has.listed.within.0, has.listed.within.1) in
    tallied-more first reads (usual_read c.args.usual) (Some c.usual_operation-op.result) c.args.self.now _ has (usual-within c.args.usual)
    (c.usual_operation-op.ensures ∙ ap (λ q. operation_of c.args.self.now.line c.args.self.now.stretch q (usual_read c.args.usual)) rack) c.in_ok-add.ensures.ok
    refl (usual-stretch c.args.self.now.stretch c.args.usual) (usual-rack c.args.self.now.rack c.args.usual)
