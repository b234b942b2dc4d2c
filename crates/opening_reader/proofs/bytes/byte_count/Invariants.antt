use Rattle.std.proofs.Common.{◌≡◌, ◌+◌, ◌*◌, ◌≤◌, drop}
use Rattle.opening_reader.specs.Openings.{bytes_of}
use Rattle.opening_reader.proofs.bytes.byte_count.Given as goal

abbrev pub invariant-lines : goal.invariant-lines
invariant-lines l = record { count : l.count + bytes_of (drop l.at l.text) ≡ bytes_of l.text; few : l.count ≤ 65536 * l.at }
