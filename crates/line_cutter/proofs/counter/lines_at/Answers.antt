use Rattle.line_cutter.proofs.PlacesBehind.{between-one}
use Rattle.line_cutter.proofs.counter.lines_at.Goals as goal

pub returns-clause-ok : goal.returns-clause-ok
returns-clause-ok c = between-one _ _ _ _ c.requires.some c.in_ok-next.ensures.ok
