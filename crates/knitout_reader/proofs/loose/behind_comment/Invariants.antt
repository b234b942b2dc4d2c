use Rattle.std.proofs.Common.{take, All}
use Rattle.knitout_reader.specs.Loose.{StaysInLine}
use Rattle.knitout_reader.proofs.loose.behind_comment.Given as goal

abbrev pub invariant-loop-at : goal.invariant-loop-at
invariant-loop-at l = All StaysInLine (take l.at l.text)
