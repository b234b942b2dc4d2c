use Rattle.std.proofs.Common.{◌-◌, length}
use Rattle.knitout_reader.proofs.CarrierLists.{SoughtSoFar}
use Rattle.knitout_reader.proofs.carriers.first_undeclared.Given as goal

abbrev pub invariant-loop-name : goal.invariant-loop-name
invariant-loop-name l = SoughtSoFar l.declared l.code l.at l.place l.start

abbrev pub decreases-loop-name : goal.decreases-loop-name
decreases-loop-name l = length l.code - l.start
