use Rattle.std.proofs.Common.{◌≡◌, ◌≤◌, length, map, take, vec_capacity}
use Rattle.knit_base.specs.Lines.{behind_first}
use Rattle.knit_base.proofs.copies.behind_each_first.Given as goal

abbrev pub invariant-loop-span : goal.invariant-loop-span
invariant-loop-span l = record {
  so_far : l.places.items ≡ map (behind_first l.count) (take l.span-index l.spans);
  room : length l.spans ≤ vec_capacity l.places;
}
