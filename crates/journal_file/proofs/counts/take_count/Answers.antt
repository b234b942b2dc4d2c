use Rattle.journal_file.specs.CountLines.{IsCount}
use Rattle.journal_file.proofs.Readings.{taken-bad, taken-none}
use Rattle.journal_file.proofs.counts.take_count.Goals as goal

pub returns-in-None-clause-count : goal.returns-in-None-clause-count
returns-in-None-clause-count c = taken-none (IsCount c.args.label.now c.args.least c.args.most) c.args.at.rest.now c.in-None.ensures

pub returns-in-None-count_of-clause-count : goal.returns-in-None-count_of-clause-count
returns-in-None-count_of-clause-count c = taken-bad (IsCount c.args.label.now c.args.least c.args.most) c.args.at.rest.now c.in-Some.line.now c.in-Some.rest.now c.in-Some.ensures.0 c.in-Some.ensures.1 c.in-None-count_of.ensures
