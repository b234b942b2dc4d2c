use Rattle.std.proofs.Common.{◌≡◌, All, length}
use Rattle.tally_tree.specs.Rooms.{IsSpare}
use Rattle.tally_tree.proofs.spares.made.Given as goal

abbrev pub invariant-loop-i : goal.invariant-loop-i
invariant-loop-i l = All (IsSpare l.room) l.tallies.items × (length l.tallies.items ≡ l._i)
