use Rattle.std.proofs.Common.{◌≡◌, ◌*◌, ◌≤◌, length, take}
use Rattle.knitout_writer.specs.Canonical.{with_line_feeds}
use Rattle.knitout_writer.proofs.text.len_with_line_feeds.Given as goal

abbrev pub invariant-loop-i : goal.invariant-loop-i
invariant-loop-i l = (l.len ≡ length (with_line_feeds (take l.i l.lines))) × (l.len ≤ 65536 * l.i)
