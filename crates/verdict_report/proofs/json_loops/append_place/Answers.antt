use Rattle.std.proofs.Common.{rules}
use Rattle.verdict_report.specs.JsonText.{loop_place}
use Rattle.verdict_report.proofs.json_loops.append_place.Goals as goal

pub returns : goal.returns
unfolding loop_place
returns c = search rules
