use Rattle.std.proofs.Common.{rules, ◌+◌, ◌-◌, ◌%◌, ◌^◌, arith}
use Rattle.turn_book.proofs.LockRule.{steps_beside}
use Rattle.turn_book.proofs.pass.Shared.wait.Goals as goal

pub fetch_add-requires : goal.fetch_add-requires
fetch_add-requires g c = (search rules, search rules, steps_beside _ _ _ _ _ _ _ _ _ (λ n. (n + 1) % 2 ^ 64) (omega arith))

pub fetch_sub-requires : goal.fetch_sub-requires
fetch_sub-requires g c = (search rules, search rules, steps_beside _ _ _ _ _ _ _ _ _ (λ n. (n + (2 ^ 64 - 1)) % 2 ^ 64) (omega arith))
