-- Where lines lie.
use Rattle.std.specs.Prelude.{ℕ, List, map, slice_range}
use Rattle.std.specs.Arc.{arc_value}
use Rattle.knit_base.specs.declared.held.Held.{Held}
use Rattle.knit_base.specs.declared.held.Held.TheVariants.{Own, Shared}
use Rattle.knit_base.specs.declared.cut.CutPart.{CutPart}
use Rattle.knit_base.specs.declared.lines.Span.{Span}
use Rattle.knit_base.specs.Lines.{behind_first}

-- the bytes of the cut of which it is a part
abbrev pub bytes_of_part : CutPart → List ℕ
bytes_of_part part = (arc_value part.cut).bytes.items

-- where its lines lie in them
abbrev pub spans_of_part : CutPart → List Span
spans_of_part part = map (behind_first part.skipped) (slice_range (arc_value part.cut).spans.items part.start part.end)

-- the bytes, whether they are shared or not
abbrev pub bytes_in : Held → List ℕ
bytes_in (Own cut) = cut.bytes.items
bytes_in (Shared part) = bytes_of_part part

-- where the lines lie in them
abbrev pub spans_in : Held → List Span
spans_in (Own cut) = cut.spans.items
spans_in (Shared part) = spans_of_part part
