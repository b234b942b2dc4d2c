-- The same condition is kept.
use Rattle.summary_compose.proofs.AlikeConditions.{same_at_place}
use Rattle.summary_compose.proofs.alike.find_same.Goals as goal

pub returns-then-is_same_plain : goal.returns-then-is_same_plain
returns-then-is_same_plain c = λ yes.
    same_at_place c.args.a.now c.loop-walk.walk.place _ c.args.cond c.if-walk-a.false c.requires.irredundant (c.is_same_plain.ensures.plain c.if-is_same_plain.true) (c.is_same_plain.ensures.same c.if-is_same_plain.true)
