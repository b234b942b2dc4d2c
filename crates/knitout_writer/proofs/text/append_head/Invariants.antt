use Rattle.std.proofs.Common.{◌≡◌, ◌++◌, take}
use Rattle.knitout_writer.specs.Canonical.{with_line_feeds}
use Rattle.knitout_writer.proofs.text.append_head.Given as goal

abbrev pub invariant-loop-i : goal.invariant-loop-i
invariant-loop-i l = l.out.items ≡ l.fn.out.items ++ with_line_feeds (take l.i l.lines)
