use Rattle.std.proofs.Common.{◌-◌, length}
use Rattle.knitout_reader.proofs.CarrierLists.{GatheredSoFar}
use Rattle.knitout_reader.proofs.carriers.read_carriers.Given as goal

abbrev pub invariant-loop-name : goal.invariant-loop-name
invariant-loop-name l = GatheredSoFar l.declared l.code l.at l.place l.start l.yarns l.seen

abbrev pub decreases-loop-name : goal.decreases-loop-name
decreases-loop-name l = length l.code - l.start
