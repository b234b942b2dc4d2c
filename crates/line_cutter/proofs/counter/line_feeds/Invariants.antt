use Rattle.std.proofs.Common.{◌≡◌, ◌+◌, ◌≤◌, length}
use Rattle.std.specs.List.{count_by}
use Rattle.std.specs.Slice.Iter.{chunks_rest, chunks_size}
use Rattle.knit_base.specs.Lines.{is_line_feed}
use Rattle.line_cutter.proofs.counter.line_feeds.Given as goal

abbrev pub invariant-loop-chunk : goal.invariant-loop-chunk
invariant-loop-chunk l =
    (goal.iterator-loop-chunk).can_next l.chunk-iterator
    × (goal.iterator-loop-chunk).is_finite l.chunk-iterator
    × (chunks_size l.chunk-iterator ≡ 224)
    × (l.count + length (chunks_rest l.chunk-iterator) ≤ length l.text)
    × (l.count + count_by is_line_feed (chunks_rest l.chunk-iterator) ≡ count_by is_line_feed l.text)
