use Rattle.std.proofs.Common.{take, All}
use Rattle.knitout_reader.specs.Numbers.{IsNoPoint}
use Rattle.knitout_reader.proofs.rack.split_at_point.Given as goal

abbrev pub invariant-loop-at : goal.invariant-loop-at
invariant-loop-at l = All IsNoPoint (take l.at l.text)
