-- A knit of which all is known, as a line more of a block.
use Rattle.std.proofs.Common.{Option, Some, ◌≡◌, ℕ, ◌+◌, Bool, true, false, List, [], ◌∷◌, ◌++◌, None, refl, sym, ap, ◌∙◌, subst, inl, inr}
use Rattle.std.specs.List.{Contains}
use Rattle.std.specs.Option.{option_map, option_to_list}
use Rattle.knit_base.specs.declared.instr.Instr.{Instr}
use Rattle.knit_base.specs.declared.instr.Instr.TheVariants.{Knit}
use Rattle.knit_base.specs.declared.instr.Read.TheVariants as read
use Rattle.knit_base.specs.declared.needle.Dir.{Dir}
use Rattle.knit_base.specs.declared.needle.Needle.{Needle}
use Rattle.knit_base.specs.declared.profile.Profile.{Profile}
use Rattle.knit_base.specs.declared.rule.Fault.{Fault}
use Rattle.knit_base.specs.declared.rule.Reason.{Reason}
use Rattle.knit_base.specs.declared.usual.Usual.{Usual}
use Rattle.knit_base.specs.declared.usual.Usual.TheVariants as usual
use Rattle.knit_base.specs.declared.yarns.CarrierNo.{CarrierNo}
use Rattle.knit_base.specs.Lawful.{IsLawfulRead}
use Rattle.knit_base.specs.Usual.{usual_read}
use Rattle.face_data.specs.declared.face.Seg.{Seg}
use Rattle.face_data.specs.Segments.{segments_on}
use Rattle.face_data.specs.Summaries.{Summary}
use Rattle.face_data.proofs.Members.{Contains-cons_cases, Contains-none}
use Rattle.loop_history.specs.declared.row.LoopRow.{LoopRow}
use Rattle.face_data.specs.declared.face.Ending.TheVariants.{Through}
use Rattle.block_summary.specs.DraftKnowledge.{HasAskedAll, effect_in, stopped_at}
use Rattle.block_summary.specs.LineEnds.{loop_of_line}
use Rattle.block_summary.specs.LineSummaries.{conditions_of_instr}
use Rattle.block_summary.specs.Prepared.{AddsLine, AreRowsOf, IsLineAdded, IsKnitIfKnown, loop_row_of}
use Rattle.block_summary.proofs.AskedHold.{asked_again}
use Rattle.block_summary.proofs.Blocks.{one_more_line, rows_more}
use Rattle.block_summary.proofs.KnitSteps.{through_before}
use Rattle.block_summary.proofs.LineSteps.{line_stops}

-- what holds of a carrier holds of each one of the list of it alone
pub of_one : (P : CarrierNo → Type 0) (c x : CarrierNo) → P c → Contains (c ∷ []) x → P x
of_one P c x holds there = elim (Contains-cons_cases c [] x there) [
  | inl same ↦ subst P same holds
  | inr later ↦ absurd (Contains-none x later)
]

-- the row of a knit of one carrier
pub knit_row : (rows more : List LoopRow) (old : Summary) (offset : ℕ) (dir : Dir) (n : Needle) (c : CarrierNo) (yarns : List CarrierNo) (through : List Seg) →
    more ≡ rows ++ record { offset = offset; needle = n; dir = dir; yarns = yarns; through = through } ∷ [] → offset ≡ old.lines → yarns ≡ c ∷ [] → through ≡ segments_on old.changes n →
    more ≡ rows ++ option_to_list (option_map (loop_row_of old.lines) (loop_of_line (read.Instr (Knit dir n (c ∷ []))) old.changes))
knit_row rows more old offset dir n c yarns through is at same drawn =
    is ∙ (λ i. rows ++ record { offset = at i; needle = n; dir = dir; yarns = same i; through = drawn i } ∷ [])

-- a knit of which all is known is a line more
pub known_adds : (profile : Profile) (carriers : ℕ) (u : Usual) (dir : Dir) (n : Needle) (c : CarrierNo) (known : Bool) (old new : Summary) (rows more : List LoopRow) → u ≡ usual.Knit dir n c → profile.float ≡ None →
    IsLawfulRead profile carriers (usual_read u) → known ≡ true → IsKnitIfKnown known dir n c old new rows more → AddsLine profile carriers (usual_read u) old new rows more None
known_adds profile carriers u dir n c true old new rows more is free lawful sure added = record {
  lawful = lawful;
  added = subst (λ (x : Usual). IsLineAdded profile (usual_read x) old new rows more None) (sym is) (added profile free);
}
known_adds profile carriers u dir n c false old new rows more is free lawful sure added = absurd (cc)

pub known_lines : (profile : Profile) (dir : Dir) (n : Needle) (c : CarrierNo) (known : Bool) (old new : Summary) (rows more : List LoopRow) → profile.float ≡ None → known ≡ true → IsKnitIfKnown known dir n c old new rows more →
    new.lines ≡ old.lines + 1
known_lines profile dir n c true old new rows more free sure added = ap (λ (s : Summary). s.lines) (added profile free).0 ∙ one_more_line profile (read.Instr (Knit dir n (c ∷ []))) old
known_lines profile dir n c false old new rows more free sure added = absurd (cc)

pub known_rows : (profile : Profile) (dir : Dir) (n : Needle) (c : CarrierNo) (known : Bool) (old new : Summary) (rows more : List LoopRow) → profile.float ≡ None → known ≡ true → IsKnitIfKnown known dir n c old new rows more →
    AreRowsOf old.lines rows → AreRowsOf new.lines more
known_rows profile dir n c true old new rows more free sure added are =
    rows_more old.lines new.lines rows more old.lines (loop_of_line (read.Instr (Knit dir n (c ∷ []))) old.changes) (known_lines profile dir n c true old new rows more free sure added) refl (added profile free).1 are
known_rows profile dir n c false old new rows more free sure added are = absurd (cc)

-- and else nothing was done
pub not_known : (dir : Dir) (n : Needle) (c : CarrierNo) (known : Bool) (old new : Summary) (rows more : List LoopRow) → known ≡ false → IsKnitIfKnown known dir n c old new rows more →
    (new ≡ old) × (more ≡ rows)
not_known dir n c true old new rows more sure added = absurd (cc)
not_known dir n c false old new rows more sure added = added

-- A line more whose conditions were asked before.
added_after : (profile : Profile) (instr : Instr) (old mid new : Summary) (rows more : List LoopRow) (stop : Option Fault) → old.ending ≡ Through (effect_in old.ending) →
    HasAskedAll old mid (conditions_of_instr profile instr) None → IsLineAdded profile (read.Instr instr) mid new rows more stop → IsLineAdded profile (read.Instr instr) old new rows more stop
added_after profile instr old mid new rows more None through asked h = (
  h.0 ∙ asked_again profile instr old mid through asked,
  h.1 ∙ ap (λ (s : Summary). rows ++ option_to_list (option_map (loop_row_of s.lines) (loop_of_line (read.Instr instr) s.changes))) asked.rest_stays,
)
added_after profile instr old mid new rows more (Some fault) through asked h = (sym (asked_again profile instr old mid through asked) ∙ h.0, h.1)

pub adds_after : (profile : Profile) (carriers : ℕ) (instr : Instr) (old mid now new : Summary) (rows some more : List LoopRow) (stop : Option Fault) → now ≡ mid → some ≡ rows →
    mid.ending ≡ Through (effect_in mid.ending) → HasAskedAll old mid (conditions_of_instr profile instr) None → AddsLine profile carriers (read.Instr instr) now new some more stop →
    AddsLine profile carriers (read.Instr instr) old new rows more stop
adds_after profile carriers instr old mid now new rows some more stop same rows_are through asked h =
    let here : AddsLine profile carriers (read.Instr instr) mid new rows more stop =
    subst (λ (s : Summary). AddsLine profile carriers (read.Instr instr) s new rows more stop) same
    (subst (λ (xs : List LoopRow). AddsLine profile carriers (read.Instr instr) now new xs more stop) rows_are h) in
    record {
      lawful = here.lawful;
      added = added_after profile instr old mid new rows more stop (through_before old mid asked.rest_stays through) asked here.added;
    }

-- The line is known to stop.
pub stops_first : (profile : Profile) (carriers : ℕ) (instr : Instr) (old mid new : Summary) (rows : List LoopRow) (reason : Reason) (fault : Fault) → mid.ending ≡ Through (effect_in mid.ending) →
    IsLawfulRead profile carriers (read.Instr instr) → HasAskedAll old mid (conditions_of_instr profile instr) (Some reason) → fault ≡ record { line = mid.lines; reason = reason } →
    new ≡ record mid { lines = mid.lines + 1 } → AddsLine profile carriers (read.Instr instr) old new rows rows (Some fault)
stops_first profile carriers instr old mid new rows reason fault through lawful asked at is = record {
  lawful = lawful;
  added = (line_stops profile instr old mid reason (through_before old mid asked.rest_stays through) asked ∙ (λ i. stopped_at (sym at i) (sym is i)), refl);
}

-- the lines are no more after asking
pub lines_after : (old mid : Summary) (profile : Profile) (instr : Instr) (stop : Option Reason) → HasAskedAll old mid (conditions_of_instr profile instr) stop → mid.lines ≡ old.lines
lines_after old mid profile instr stop asked = ap (λ (s : Summary). s.lines) asked.rest_stays

-- the rows of as many lines
pub rows_along : (old now : ℕ) (rows some : List LoopRow) → now ≡ old → some ≡ rows → AreRowsOf old rows → AreRowsOf now some
rows_along old now rows some same rows_are are = subst (λ n. AreRowsOf n some) (sym same) (subst (λ (xs : List LoopRow). AreRowsOf old xs) (sym rows_are) are)
