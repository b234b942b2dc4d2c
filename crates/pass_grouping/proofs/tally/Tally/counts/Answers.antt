use Rattle.pass_grouping.proofs.tally.Tally.counts.Goals as goal

pub returns : goal.returns
returns c = λ first reads has. c.counts.ensures _ has.growing
