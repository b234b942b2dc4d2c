use Rattle.journal_file.proofs.Readings.{taken-bad, taken-none}
use Rattle.journal_file.specs.Lines.{IsBarredLine}
use Rattle.journal_file.proofs.text.take_text.Goals as goal

pub returns-in-None-clause-text : goal.returns-in-None-clause-text
returns-in-None-clause-text c = taken-none IsBarredLine c.args.at.rest.now c.in-None.ensures

pub returns-in-None-text_of-clause-text : goal.returns-in-None-text_of-clause-text
returns-in-None-text_of-clause-text c = taken-bad IsBarredLine c.args.at.rest.now c.in-Some.line.now c.in-Some.rest.now c.in-Some.ensures.0 c.in-Some.ensures.1 c.in-None-text_of.ensures
