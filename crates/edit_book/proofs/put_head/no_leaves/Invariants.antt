use Rattle.std.proofs.Common.{◌≡◌, None, replicate}
use Rattle.edit_book.proofs.put_head.no_leaves.Given as goal

abbrev pub invariant-loop : goal.invariant-loop
invariant-loop l = l.taken.items ≡ replicate l.counter None
