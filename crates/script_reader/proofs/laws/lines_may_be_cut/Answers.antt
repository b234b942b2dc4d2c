use Rattle.script_reader.proofs.Hearings.{line-cut}
use Rattle.script_reader.proofs.laws.lines_may_be_cut.Goals as goal

pub returns : goal.returns
returns c = line-cut
