use Rattle.std.proofs.Common.{◌≡◌, ◌-◌, ◌≤◌, vec_len, vec_capacity}
use Rattle.std.specs.List.{All}
use Rattle.span_pool.proofs.shelf.add_lists.Given as goal

abbrev pub invariant-adding : goal.invariant-adding
invariant-adding g l = record {
  grown : l.before ≤ vec_len l.lists;
  within : vec_len l.lists ≤ l.wanted;
  places : vec_capacity l.lists ≡ vec_capacity l.initial.lists;
  roomy : All (λ v. l.room ≤ vec_capacity v) l.lists.items;
}

abbrev pub decreases-adding : goal.decreases-adding
decreases-adding g l = l.wanted - vec_len l.lists
