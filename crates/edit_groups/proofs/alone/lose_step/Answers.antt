use Rattle.edit_groups.proofs.AnsweredAlone.{lost_answered}
use Rattle.edit_groups.proofs.alone.lose_step.Goals as goal

pub returns-clause-answered : goal.returns-clause-answered
returns-clause-answered c = λ opening known m lost at counted.
    lost_answered opening known m c.args.session.now c.learn_missed.new.self at c.learn_missed.ensures.head lost c.args.adds counted (c.learn_missed.ensures.learned m at.remembers)
