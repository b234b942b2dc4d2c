-- Which lines are the opening of a conversation, with which text, and which line can't stand behind others.
use Rattle.std.specs.Prelude.{◌≡◌, ◌≢◌, ◌⊎◌, ℕ, ◌+◌, ◌<◌, ◌≤◌, nat_le, true, false, All, List, [], ◌∷◌, ◌++◌, length, drop, flat_map, Option, Some, None, if◌then◌else◌}
use Rattle.std.specs.Option.{option_map_or}
use Rattle.std.specs.Str.{is_utf8}
use Rattle.knit_ports.specs.WholeLines.{with_feed}
use Rattle.knit_ports.specs.declared.limit.TheConstants.{HEARD_LIMIT}
use Rattle.line_cutter.specs.declared.line.TheConstants.{LINE_LIMIT}
use Rattle.opening_reader.specs.declared.front.TheConstants.{OPENING_LIMIT}
use Rattle.opening_reader.specs.declared.opening.OpeningKind.{OpeningKind}
use Rattle.opening_reader.specs.declared.opening.OpeningKind.TheVariants as kind
use Rattle.opening_reader.specs.declared.opening.Wanted.{Wanted}
use Rattle.script_reader.specs.Statements.{is_skipped, is_text_line}
use Rattle.script_reader.specs.TalkLines.{talk_opening}
use Rattle.script_reader.specs.declared.fault.Cause.{Cause}
use Rattle.script_reader.specs.declared.fault.Cause.TheVariants.{BadLine, LineLong, NoServe, NotUtf8}
use Rattle.script_reader.specs.declared.talk_line.TalkOpening.{TalkOpening}
use Rattle.script_reader.specs.declared.talk_line.TalkOpening.TheVariants as opening

-- what a first line asks for behind it, and how many lines of it
abbrev pub wanted_by : Option TalkOpening → Option Wanted
wanted_by None = None
wanted_by (Some (opening.Lines count)) = Some (record { kind = kind.Text; missing = count })
wanted_by (Some (opening.Journal count)) = Some (record { kind = kind.Saved; missing = count })

-- of a first line, which is `serve 1 lines` or `serve 1 journal`, and a number
abbrev pub wanted_in : List ℕ → Option Wanted
wanted_in line = wanted_by (talk_opening line)

-- the texts of the text lines among these
abbrev pub texts_in_lines : List (List ℕ) → List (List ℕ)
texts_in_lines [] = []
texts_in_lines (line ∷ lines) = if is_text_line line then drop 1 line ∷ texts_in_lines lines else texts_in_lines lines

-- what lines behind the first tell: the text lines their texts, and the lines of a saved text themselves
abbrev pub told_in : OpeningKind → List (List ℕ) → List (List ℕ)
told_in kind.Text lines = texts_in_lines lines
told_in kind.Saved lines = lines

-- a line that may stand behind the first: a text line, or one that is passed over; any, in a saved text
abbrev pub MayFollow : OpeningKind → List ℕ → Type 0
MayFollow kind.Text line = (is_text_line line ≡ true) ⊎ (is_skipped line ≡ true)
MayFollow kind.Saved line = Unit {0}

-- so long a line behind the first may be
abbrev pub limit_of : OpeningKind → ℕ
limit_of kind.Text = LINE_LIMIT
limit_of kind.Saved = HEARD_LIMIT

-- why a line can't be read, of at most so many bytes
abbrev pub fault_within : ℕ → List ℕ → Option Cause
fault_within limit line = if nat_le (length line) limit then (if is_utf8 line then None else Some NotUtf8) else Some LineLong

-- what lines that begin with this one have behind it
abbrev pub kind_in : List ℕ → OpeningKind
kind_in first = option_map_or (λ wanted. wanted.kind) (wanted_in first) kind.Text

-- so long the line behind these may be
abbrev pub limit_behind : List (List ℕ) → ℕ
limit_behind [] = LINE_LIMIT
limit_behind (first ∷ others) = limit_of (kind_in first)

-- how many bytes the lines have, each with one line feed
abbrev pub bytes_of : List (List ℕ) → ℕ
bytes_of lines = length (flat_map with_feed lines)

abbrev pub CanBeRead : ℕ → List ℕ → Type 0
CanBeRead limit line = fault_within limit line ≡ None

-- all of these lines can be read
abbrev pub AreReadable : List (List ℕ) → Type 0
AreReadable [] = Unit {0}
AreReadable (first ∷ others) = CanBeRead LINE_LIMIT first × All (CanBeRead (limit_of (kind_in first))) others

-- all of the lines can be read, and they aren't too long together
pub record AreReadableLines (lines : List (List ℕ)) : Type 0 where
  pub readable : AreReadable lines
  pub few : bytes_of lines ≤ OPENING_LIMIT

-- The first of the lines asks for lines of this kind, so many more than those behind it tell, and these fit.
pub record AskFor (lines : List (List ℕ)) (kind : OpeningKind) (missing : ℕ) : Type 0 where
  pub first : List ℕ
  pub others : List (List ℕ)
  pub lines_are : lines ≡ first ∷ others
  pub asked : wanted_in first ≡ Some (record { kind = kind; missing = length (told_in kind others) + missing })
  pub fit : All (MayFollow kind) others

-- no line is there yet, or lines are missing
pub data IsUnfinished (lines : List (List ℕ)) : Type 0 where
  nothing_yet : lines ≡ [] → IsUnfinished lines
  wanting : (kind : OpeningKind) (missing : ℕ) → 0 < missing → AskFor lines kind missing → IsUnfinished lines

-- an opening begins with these lines, and goes on behind them
pub record IsOpeningFront (lines : List (List ℕ)) : Type 0 where
  pub good : AreReadableLines lines
  pub unfinished : IsUnfinished lines

-- the lines are an opening of this kind, with this text: none is missing, and without the last of them one is
pub record AreOpeningLines (lines : List (List ℕ)) (kind : OpeningKind) (text : List (List ℕ)) : Type 0 where
  pub good : AreReadableLines lines
  pub whole : AskFor lines kind 0
  pub text_is : text ≡ told_in kind (drop 1 lines)
  pub before : List (List ℕ)
  pub last : List ℕ
  pub parted : lines ≡ before ++ last ∷ []
  pub unfinished : IsUnfinished before

-- The line can't stand behind these, for this cause: it can't be read; or it can, and the lines aren't too long with it, but the first line
-- asks for nothing, or a later one of an opening text is no text line and isn't passed over.
pub data CantStand (lines : List (List ℕ)) (line : List ℕ) : Cause → Type 0 where
  unreadable : (cause : Cause) → fault_within (limit_behind lines) line ≡ Some cause → CantStand lines line cause
  no_first : lines ≡ [] → AreReadableLines (lines ++ line ∷ []) → wanted_in line ≡ None → CantStand lines line NoServe
  no_other : (missing : ℕ) → AskFor lines kind.Text missing → AreReadableLines (lines ++ line ∷ []) → is_text_line line ≡ false → is_skipped line ≡ false
      → CantStand lines line BadLine

-- the line can be read, and the lines are too long with it
pub record IsTooMuch (lines : List (List ℕ)) (line : List ℕ) : Type 0 where
  pub readable : CanBeRead (limit_behind lines) line
  pub many : OPENING_LIMIT < bytes_of (lines ++ line ∷ [])

-- the line is told, and may stand behind these
pub record IsNextText (lines : List (List ℕ)) (line : List ℕ) : Type 0 where
  pub kind : OpeningKind
  pub missing : ℕ
  pub asked : AskFor lines kind missing
  pub good : AreReadableLines (lines ++ line ∷ [])
  pub text : told_in kind (line ∷ []) ≢ []

-- why the input can't end behind these lines: there is no first line, or lines are missing
abbrev pub cause_at_end : List (List ℕ) → Cause
cause_at_end [] = NoServe
cause_at_end (line ∷ lines) = BadLine
