-- Good lines, and the first bad one.
use Rattle.std.specs.Prelude.{◌≡◌, ℕ, ◌+◌, ◌<◌, ◌≤◌, true, false, List, ◌∷◌, ◌++◌, length, take, drop, map, All}
use Rattle.std.specs.Str.{is_utf8}
use Rattle.knit_base.specs.declared.lines.Span.{Span}
use Rattle.knit_base.specs.Lines.{HasNoLineEnd, IsLine, IsSpanWithin, lines_of, span_bytes}
use Rattle.line_cutter.specs.declared.line.TheConstants.{LINE_LIMIT}
use Rattle.line_cutter.specs.declared.fault.CutFault.{CutFault}
use Rattle.line_cutter.specs.declared.fault.CutFault.TheVariants.{NotUtf8, LineLong, NoMemory}
use Rattle.line_cutter.specs.declared.line.Found.{Found}

-- a line that is UTF-8 and not too long
pub record IsGoodLine (line : List ℕ) : Type 0 where
  pub utf8 : is_utf8 line ≡ true
  pub short : length line ≤ LINE_LIMIT

-- a line that isn't UTF-8
abbrev pub IsNotUtf8 : List ℕ → Type 0
IsNotUtf8 line = is_utf8 line ≡ false

-- a line that is UTF-8 and too long
pub record IsLongLine (line : List ℕ) : Type 0 where
  pub utf8 : is_utf8 line ≡ true
  pub long : LINE_LIMIT < length line

-- the line with this number, from 1, is bad, and the lines before it are good
pub record IsFirstBadLine (IsBad : List ℕ → Type 0) (lines : List (List ℕ)) (number : ℕ) : Type 0 where
  pub before : List (List ℕ)
  pub bad : List ℕ
  pub after : List (List ℕ)
  pub lines_are : lines ≡ before ++ bad ∷ after
  pub counted : number ≡ length before + 1
  pub good_before : All IsGoodLine before
  pub is_bad : IsBad bad

-- the refusal names the first bad line and what is wrong with it; want of memory says nothing of the lines
abbrev pub IsFirstBad : List (List ℕ) → CutFault → Type 0
IsFirstBad lines (NotUtf8 number) = IsFirstBadLine IsNotUtf8 lines number
IsFirstBad lines (LineLong number) = IsFirstBadLine IsLongLine lines number
IsFirstBad lines NoMemory = Unit {0}

-- the text's first lines lie here and are good: they, and behind them the lines from the next place on, are its lines
pub record AreCutTo (text : List ℕ) (spans : List Span) (next : ℕ) : Type 0 where
  pub lines_are : map (span_bytes text) spans ++ lines_of (drop next text) ≡ lines_of text
  pub good : All IsGoodLine (map (span_bytes text) spans)
  pub within : All (IsSpanWithin text) spans
  pub lines : All IsLine (map (span_bytes text) spans)
  pub few : length spans ≤ next
  pub fit : length spans ≤ length text

-- The refusal names the first bad line of a text in which so many good lines stand before these. It says the same whichever lines those are.
abbrev pub IsFirstBadBehind : ℕ → List (List ℕ) → CutFault → Type 0
IsFirstBadBehind before lines fault = (front : List (List ℕ)) → length front ≡ before → All IsGoodLine front → IsFirstBad (front ++ lines) fault

-- all lines of the text lie here, and they are good
pub record AreCut (text : List ℕ) (spans : List Span) : Type 0 where
  pub lines_are : map (span_bytes text) spans ≡ lines_of text
  pub good : All IsGoodLine (map (span_bytes text) spans)
  pub within : All (IsSpanWithin text) spans
  pub lines : All IsLine (map (span_bytes text) spans)
  pub fit : length spans ≤ length text

-- the refusal names this line and what is wrong with it
abbrev pub IsLineRefused : List ℕ → ℕ → CutFault → Type 0
IsLineRefused line number (NotUtf8 named) = (named ≡ number) × IsNotUtf8 line
IsLineRefused line number (LineLong named) = (named ≡ number) × IsLongLine line
IsLineRefused line number NoMemory = ⊥

-- a good line begins here and is found, and the lines after it are those of the text from the next place on
pub record IsNextLine (text : List ℕ) (start : ℕ) (found : Found) : Type 0 where
  pub here : found.line.start ≡ start
  pub within : IsSpanWithin text found.line
  pub further : start < found.next
  pub first : lines_of (drop start text) ≡ span_bytes text found.line ∷ lines_of (drop found.next text)
  pub good : IsGoodLine (span_bytes text found.line)
  pub one : HasNoLineEnd (span_bytes text found.line)

-- the line that begins here is refused
pub record IsNextRefused (text : List ℕ) (start number : ℕ) (fault : CutFault) : Type 0 where
  pub line : List ℕ
  pub later : List (List ℕ)
  pub first : lines_of (drop start text) ≡ line ∷ later
  pub refused : IsLineRefused line number fault

-- a good line begins here, and the next one there
pub record GoodLineStandsAt (text : List ℕ) (start : ℕ) (line : List ℕ) (next : ℕ) : Type 0 where
  pub further : start < next
  pub first : lines_of (drop start text) ≡ line ∷ lines_of (drop next text)
  pub good : IsGoodLine line

-- so many good lines stand between these two places, where lines begin
pub record StandBetween (text : List ℕ) (start count next : ℕ) : Type 0 where
  pub lines : List (List ℕ)
  pub further : start < next
  pub first : lines_of (drop start text) ≡ lines ++ lines_of (drop next text)
  pub counted : length lines ≡ count
  pub few : start + count ≤ next
  pub within : start + count ≤ length text
  pub good : All IsGoodLine lines

-- the text has so many lines, and they are good
pub record HasGoodLines (text : List ℕ) (count : ℕ) : Type 0 where
  pub counted : count ≡ length (lines_of text)
  pub fit : count ≤ length text
  pub good : All IsGoodLine (lines_of text)

-- So many lines stand before this place, and they are good.
pub record IsPlaceBehind (text : List ℕ) (count start : ℕ) : Type 0 where
  pub left : drop count (lines_of text) ≡ lines_of (drop start text)
  pub within : count ≤ length (lines_of text)
  pub few : count ≤ start
  pub fit : count ≤ length text
  pub good : All IsGoodLine (take count (lines_of text))
