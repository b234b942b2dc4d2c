use Rattle.std.proofs.Common.{◌≡◌}
use Rattle.carriage_model.proofs.StackLists.{stacks_listed, stacks_of}
use Rattle.carriage_model.proofs.beds.list_stacks.Given as goal

abbrev pub invariant-loop-place : goal.invariant-loop-place
invariant-loop-place l = l.list ≡ stacks_listed l.fn.low l.width 0 (stacks_of l.yielded)
