use Rattle.std.proofs.Common.{◌≡◌, replicate}
use Rattle.edit_book.specs.declared.block_state.BlockState.TheVariants.{There}
use Rattle.edit_book.proofs.open.all_there.Given as goal

abbrev pub invariant-loop : goal.invariant-loop
invariant-loop l = l.states.items ≡ replicate l.counter (There 0)
