use Rattle.std.proofs.Common.{◌≡◌, ◌+◌, length, take}
use Rattle.block_summary.specs.NeedleChains.{AreAdded}
use Rattle.block_summary.proofs.chains.Chains.add.Given as goal

abbrev pub invariant-loop-n : goal.invariant-loop-n
invariant-loop-n l = record {
  added : AreAdded (take l.n-index l.needles) l.cond l.initial.self.links l.self.links;
  count : length l.self.links ≡ length l.initial.self.links + l.n-index;
  room : l.self.room ≡ l.initial.self.room;
}
