-- Blocks of lines that are prepared.
use Rattle.std.specs.Prelude.{◌≡◌, ◌≤◌, ◌<◌, ℕ, Bool, true, false, List, [], ◌∷◌, ◌++◌, All, Option, None, Some, length, take}
use Rattle.std.specs.List.{AllZip, Contains}
use Rattle.std.specs.Option.{option_map, option_to_list}
use Rattle.knit_base.specs.declared.instr.Instr.TheVariants.{Knit}
use Rattle.knit_base.specs.declared.instr.Read.{Read}
use Rattle.knit_base.specs.declared.instr.Read.TheVariants as read
use Rattle.knit_base.specs.declared.needle.Dir.{Dir}
use Rattle.knit_base.specs.declared.needle.Needle.{Needle}
use Rattle.knit_base.specs.declared.profile.Profile.{Profile}
use Rattle.knit_base.specs.declared.rule.Fault.{Fault}
use Rattle.knit_base.specs.declared.yarns.CarrierNo.{CarrierNo}
use Rattle.knit_base.specs.Lawful.{IsLawfulRead}
use Rattle.knitout_reader.specs.Reading.{ReadsAs}
use Rattle.face_data.specs.Composition.{composed}
use Rattle.face_data.specs.Goodness.{IsGood}
use Rattle.face_data.specs.Items.{items, most_items}
use Rattle.face_data.specs.Stands.{StandsFor}
use Rattle.face_data.specs.Summaries.{Summary}
use Rattle.loop_history.specs.declared.row.LoopRow.{LoopRow}
use Rattle.loop_history.specs.Tables.{TableStandsFor}
use Rattle.block_summary.specs.declared.formed.FormedLoop.{FormedLoop}
use Rattle.block_summary.specs.declared.prepared.Prepared.{Prepared}
use Rattle.block_summary.specs.DraftKnowledge.{stopped_at}
use Rattle.block_summary.specs.LineEnds.{loop_of_line}
use Rattle.block_summary.specs.LineSummaries.{NeedlesKnownInLine, block_summary_of, line_summary}

-- the lines of a text read so, with these names of carriers
abbrev pub AreReadings : Profile → List (List ℕ) → List (List ℕ) → List Read → Type 0
AreReadings profile names text lines = AllZip (ReadsAs profile names) text lines

-- the needles that the lines name are known, and the own sliders of those on which they form loops
abbrev pub AreNeedlesKnown : List Needle → List Read → Type 0
AreNeedlesKnown known lines = (r : Read) → Contains lines r → NeedlesKnownInLine known r

-- The face and the table stand for the lines. The face is good for the carriers, the limit on the loops of a needle and whatever needles are
-- known that the lines name, and has no more items than there may be for so many.
pub record IsMadeOf (profile : Profile) (carriers : ℕ) (face : Summary) (loops : List LoopRow) (lines : List Read) : Type 0 where
  pub stands : StandsFor profile face lines
  pub table : TableStandsFor profile loops lines
  pub good : (known : List Needle) → AreNeedlesKnown known lines → IsGood carriers profile.hold known face
  pub bound : (known : List Needle) → AreNeedlesKnown known lines → items face ≤ most_items carriers profile.hold (length known)

-- the block was prepared for this profile and these names of carriers
pub record IsPreparedFor (profile : Profile) (names : List (List ℕ)) (prepared : Prepared) : Type 0 where
  pub few : length prepared.text ≤ 4096
  pub made : (lines : List Read) → AreReadings profile names prepared.text lines → IsMadeOf profile (length names) prepared.face prepared.loops lines

-- the row of a loop that the line with this offset forms
abbrev pub loop_row_of : ℕ → FormedLoop → LoopRow
loop_row_of offset formed = record { offset = offset; needle = formed.needle; dir = formed.dir; yarns = formed.yarns; through = formed.through }

-- what one line more makes of a draft and of the rows: it goes on, with the row of its loop, or it is known to stop
abbrev pub IsLineAdded : Profile → Read → Summary → Summary → List LoopRow → List LoopRow → Option Fault → Type 0
IsLineAdded profile r old new rows more None =
    (new ≡ composed old (line_summary profile r)) × (more ≡ rows ++ option_to_list (option_map (loop_row_of old.lines) (loop_of_line r old.changes)))
IsLineAdded profile r old new rows more (Some fault) = (composed old (line_summary profile r) ≡ stopped_at fault new) × (more ≡ rows)

-- a lawful line more
pub record AddsLine (profile : Profile) (carriers : ℕ) (r : Read) (old new : Summary) (rows more : List LoopRow) (stop : Option Fault) : Type 0 where
  pub lawful : IsLawfulRead profile carriers r
  pub added : IsLineAdded profile r old new rows more stop

-- A knit was added, with its row, where all was known of it, and else nothing was done.
abbrev pub IsKnitIfKnown : Bool → Dir → Needle → CarrierNo → Summary → Summary → List LoopRow → List LoopRow → Type 0
IsKnitIfKnown false dir n c old new rows more = (new ≡ old) × (more ≡ rows)
IsKnitIfKnown true dir n c old new rows more = (profile : Profile) → profile.float ≡ None → IsLineAdded profile (read.Instr (Knit dir n (c ∷ []))) old new rows more None

-- the rows are of so many lines, at most one of each
pub record AreRowsOf (lines : ℕ) (rows : List LoopRow) : Type 0 where
  pub within : All (λ (row : LoopRow). row.offset < lines) rows
  pub few : length rows ≤ lines

-- So many of the lines were read, none of which is known to stop: the draft is their summary, and the rows are a table that stands for them.
pub record DraftHasRead (profile : Profile) (carriers : ℕ) (lines : List Read) (i : ℕ) (draft : Summary) (rows : List LoopRow) : Type 0 where
  pub is : draft ≡ block_summary_of profile (take i lines)
  pub lawful : (r : Read) → Contains (take i lines) r → IsLawfulRead profile carriers r
  pub table : TableStandsFor profile rows (take i lines)
