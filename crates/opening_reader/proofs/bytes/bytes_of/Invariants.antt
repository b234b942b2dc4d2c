use Rattle.std.proofs.Common.{◌≡◌, ◌++◌, drop, flat_map}
use Rattle.knit_ports.specs.WholeLines.{with_feed}
use Rattle.opening_reader.proofs.bytes.bytes_of.Given as goal

abbrev pub invariant-lines : goal.invariant-lines
invariant-lines l = l.bytes.items ++ flat_map with_feed (drop l.at l.text) ≡ flat_map with_feed l.text
