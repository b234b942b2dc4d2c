-- The lines of a text.
use Rattle.std.specs.Prelude.{◌≡◌, ◌≢◌, ◌==◌, ℕ, ◌+◌, ◌-◌, ◌<◌, ◌≤◌, ◌^◌, Bool, true, List, [], ◌∷◌, ◌++◌, length, take, drop, map, All, if◌then◌else◌}
use Rattle.std.specs.List.{slice_range, slice_split}
use Rattle.std.specs.Str.{is_utf8}
use Rattle.knit_base.specs.declared.lines.Span.{Span}

abbrev pub is_line_feed : ℕ → Bool
is_line_feed byte = byte == 10

abbrev pub HasNoLineEnd : List ℕ → Type 0
HasNoLineEnd text = All (λ byte. byte ≢ 10) text

-- UTF-8 without a line feed, and not too long
pub record IsLine (line : List ℕ) : Type 0 where
  pub utf8 : is_utf8 line ≡ true
  pub one : HasNoLineEnd line
  pub short : length line < 2 ^ 16

-- the bytes from the start of the span to its end
abbrev pub span_bytes : List ℕ → Span → List ℕ
span_bytes bytes span = take (span.end - span.start) (drop span.start bytes)

-- the span lies in the buffer
pub record IsSpanWithin (bytes : List ℕ) (span : Span) : Type 0 where
  pub ordered : span.start ≤ span.end
  pub inside : span.end ≤ length bytes

-- each span of the buffer is a line
pub record AreLineSpans (bytes : List ℕ) (spans : List Span) : Type 0 where
  pub few : length spans ≤ 16777217
  pub within : All (IsSpanWithin bytes) spans
  pub lines : All IsLine (map (span_bytes bytes) spans)

-- the pieces without a last one that is empty
abbrev pub without_empty_end : List (List ℕ) → List (List ℕ)
without_empty_end [] = []
without_empty_end ([] ∷ []) = []
without_empty_end (piece ∷ pieces) = piece ∷ without_empty_end pieces

-- one carriage return at the end of a line is no part of it
abbrev pub without_return : List ℕ → List ℕ
without_return [] = []
without_return (byte ∷ []) = if byte == 13 then [] else byte ∷ []
without_return (byte ∷ bytes) = byte ∷ without_return bytes

-- The lines of a file: the pieces between its line feeds, without a last piece that is empty, and without the carriage
-- return at the end of each.
abbrev pub lines_of : List ℕ → List (List ℕ)
lines_of bytes = map without_return (without_empty_end (slice_split is_line_feed bytes))

-- the line has a first byte, and what stands behind it is a line
pub record MayLoseFirst (line : List ℕ) : Type 0 where
  pub some : 0 < length line
  pub rest : IsLine (drop 1 line)

-- the span without so many bytes in front
abbrev pub behind_first : ℕ → Span → Span
behind_first count span = record { start = span.start + count; end = span.end }

-- the span has at least so many bytes
abbrev pub HasBytes : ℕ → Span → Type 0
HasBytes count span = span.start + count ≤ span.end

-- these are some of the spans, each of which has at least so many bytes
pub record AreSomeSpans (spans : List Span) (start end count : ℕ) : Type 0 where
  pub ordered : start ≤ end
  pub inside : end ≤ length spans
  pub long : All (HasBytes count) (slice_range spans start end)

-- the span of a line that is put behind the bytes
abbrev pub last_span : List ℕ → List ℕ → Span
last_span bytes line = record { start = length bytes; end = length bytes + length line }

-- the bytes begin with these
pub record BeginWith (front bytes : List ℕ) : Type 0 where
  pub rest : List ℕ
  pub whole : bytes ≡ front ++ rest

-- the places hold, one by one, what the spans do without so many bytes in front
pub record AreCopied (bytes : List ℕ) (count : ℕ) (spans : List Span) (copy : List ℕ) (places : List Span) : Type 0 where
  pub within : All (IsSpanWithin copy) places
  pub same : map (span_bytes copy) places ≡ map (λ span. span_bytes bytes (behind_first count span)) spans
