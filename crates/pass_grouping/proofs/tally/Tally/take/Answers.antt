use Rattle.std.proofs.Common.{◌≡◌, ◌+◌, ap, arith, to_z, of_z, w32, refl, ◌∙◌}
use Rattle.std.proofs.lemmas.Int.{ints}
use Rattle.pass_grouping.specs.Operations.{operation_of, rack_behind}
use Rattle.pass_grouping.proofs.Tallies.{tallied-more}
use Rattle.pass_grouping.proofs.tally.Tally.take.Goals as goal

pub add_any-requires-clause-few : goal.add_any-requires-clause-few
add_any-requires-clause-few c =
    let has = c.requires.tally.2 in
    omega (arith, has.growing.operations, has.listed.few, has.listed.lines, c.requires.lines)

pub add_any-requires-clause-growing : goal.add_any-requires-clause-growing
add_any-requires-clause-growing c = (_, c.requires.tally.2.growing)

pub returns-clause-ok : goal.returns-clause-ok
returns-clause-ok c = λ first reads has.
    let set : to_z w32 (of_z w32 c.rack_behind-self.result) ≡ c.rack_behind-self.result = omega (arith, ints) in
    let rack : to_z w32 (of_z w32 c.args.self.now.rack) ≡ c.args.self.now.rack = omega (arith, ints, has.listed.within.0, has.listed.within.1) in
    tallied-more first reads c.args.read.now c.in_ok-op.op c.args.self.now _ has c.requires.rack
    (c.in_ok-op.ensures ∙ ap (λ q. operation_of c.args.self.now.line c.args.self.now.stretch q c.args.read.now) rack) c.in_ok-add_any.ensures.ok
    refl (ap (λ n. c.args.self.now.stretch + n) c.stretches_ended.ensures)
    (set ∙ c.rack_behind-self.ensures ∙ ap (λ q. rack_behind q c.args.read.now) rack)
