use Rattle.std.proofs.Common.{◌≡◌, ◌≤◌, take}
use Rattle.std.specs.List.{count_by}
use Rattle.knit_base.specs.Lines.{is_line_feed}
use Rattle.line_cutter.proofs.counter.line_feeds_of_few.Given as goal

abbrev pub invariant-loop-byte : goal.invariant-loop-byte
invariant-loop-byte l = (l.count ≤ l.byte-index) × (l.count ≡ count_by is_line_feed (take l.byte-index l.bytes))
