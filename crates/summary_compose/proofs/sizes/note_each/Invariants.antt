use Rattle.std.proofs.Common.{◌≡◌, ◌++◌, map, take, length}
use Rattle.summary_compose.proofs.sizes.note_each.Given as goal

abbrev pub invariant-loop-n : goal.invariant-loop-n
invariant-loop-n l = record {
  notes : l.index.notes ≡ l.initial.index.notes ++ map (λ n. record { needle = n; len = length l.names; most = l.most }) (take l.n-index l.names);
  room : l.index.room ≡ l.initial.index.room;
}
