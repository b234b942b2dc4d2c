use Rattle.std.proofs.Common.{Some, ap, refl, sym, ◌∙◌, arith}
use Rattle.std.proofs.lemmas.Bool.{true≢false}
use Rattle.pass_grouping.specs.Passes.{Follows}
use Rattle.pass_grouping.proofs.GrowingPasses.{growing-few, growing-first, growing-more, growing-next, moved-to}
use Rattle.pass_grouping.proofs.growing.Growing.add.Goals as goal

pub returns-in_default-clause-ok : goal.returns-in_default-clause-ok
returns-in_default-clause-ok c = λ ops is.
    growing-first ops c.args.op c.args.self.now _ is c.in_default.is c.begin.ensures.ended c.begin.ensures.operations c.begin.ensures.begun c.begin.ensures.last c.begin.ensures.way

pub returns-then-follows-clause-ok : goal.returns-then-follows-clause-ok
returns-then-follows-clause-ok c = λ ops is.
    let follows : Follows c.way_on-way.result c.in-Some.last c.args.op = c.follows.ensures.0 c.if-follows.true in
    growing-more ops c.in-Some.last c.args.op c.way_on-way.result c.args.self.now _ is c.in-Some.is c.way_on-way.ensures follows refl refl refl
    (ap Some (c.move_to.ensures ∙ moved-to c.in-Some.last c.args.op follows.alike)) refl

pub push-requires : goal.push-requires
push-requires c = omega (arith, growing-few c.requires.growing.0 c.args.self.now c.requires.growing.1, c.requires.few)

pub returns-clause-ok : goal.returns-clause-ok
returns-clause-ok c = λ ops is.
    growing-next ops c.in-Some.last c.args.op c.way_on-way.result c.args.self.now _ c.in_ok-fact.fact is c.in-Some.is c.way_on-way.ensures
    (λ follows. true≢false (sym (c.follows.ensures.1 follows) ∙ c.if-follows.false)) c.in_ok-fact.ensures (c.begin-2.ensures.ended ∙ c.in_ok-push.ensures.ok)
    c.begin-2.ensures.operations c.begin-2.ensures.begun c.begin-2.ensures.last c.begin-2.ensures.way
