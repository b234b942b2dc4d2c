-- Files that were taken while they were read.
use Rattle.std.proofs.Common.{◌≡◌, ℕ, Bool, ◌+◌, ◌≤◌, ◌<◌, List, [], ◌∷◌, ◌++◌, length, get_or, All, ap, sym, subst, ◌∙◌, refl, arith, length-append}
use Rattle.std.specs.Prelude.{Result, Ok, Err}
use Rattle.std.proofs.lemmas.Bool.{true≢false}
use Rattle.std.proofs.Math.Seq.{get_or-append_seam}
use Rattle.knit_base.specs.declared.instr.Read.{Read}
use Rattle.knit_base.specs.declared.profile.Profile.{Profile}
use Rattle.knit_base.specs.Lines.{lines_of}
use Rattle.line_cutter.specs.declared.fault.CutFault.{CutFault}
use Rattle.line_cutter.specs.declared.fault.CutFault.TheVariants as cut
use Rattle.line_cutter.specs.Cut.{IsFirstBad, IsFirstBadLine, IsGoodLine, IsLongLine, IsNotUtf8}
use Rattle.knitout_reader.specs.declared.head.HeadFault.{HeadFault}
use Rattle.knitout_reader.specs.declared.head.HeadFault.TheVariants as head
use Rattle.knitout_reader.specs.Head.{IsHeadFault}
use Rattle.knit_maker.specs.Made.{made_lines}
use Rattle.pass_grouping.specs.declared.growing.Counts.{Counts}
use Rattle.pass_grouping.specs.declared.growing.ToldPasses.{ToldPasses}
use Rattle.pass_grouping.specs.declared.operation.PassOp.{PassOp}
use Rattle.pass_grouping.specs.declared.tally.Tally.{Tally}
use Rattle.pass_grouping.specs.Operations.{operations_after}
use Rattle.pass_grouping.specs.Tallies.{HasTallied}
use Rattle.pass_grouping.specs.Told.{AreOperationCounts, AreTold}
use Rattle.verdict_report.specs.PassesText.{passes_text}
use Rattle.file_run.specs.Bodies.{first_of}
use Rattle.file_run.specs.Runs.{HasTakenAll}
use Rattle.file_run.specs.declared.judgement.Judgement.{Judgement}
use Rattle.file_run.specs.Judgements.{IsJudgement}
use Rattle.input_answers.specs.declared.outcome.Status.TheVariants as status
use Rattle.input_answers.specs.CheckReport.{status_of}
use Rattle.input_answers.specs.ListingRun.{AreCountedIn}
use Rattle.input_answers.specs.PassesReport.{IsPassesReport}
use Rattle.input_answers.proofs.PassesReports.{passes-report}
use Rattle.input_answers.proofs.PlainTexts.{lines_count}

-- the lines of an input are few
pub input-few : (input : List ℕ) (count : ℕ) → length input ≤ 16777216 → count ≡ length (lines_of input) → count ≤ 33554432
input-few input count small counted = omega (arith, small, counted, lines_count input)

-- a result that is one
abbrev IsDone : {A E : Type 0} → Result A E → Type 0
IsDone (Ok a) = Unit {0}
IsDone (Err e) = ⊥

-- the head of a made program isn't refused
pub made-headed : (rows start : ℕ) (fault : HeadFault) → IsHeadFault (made_lines rows start) fault → fault ≡ head.NoMemory
made-headed rows start head.BadMagic refused = absurd (subst IsDone refused tt)
made-headed rows start head.NoCarriers refused = absurd (subst IsDone refused tt)
made-headed rows start (head.TwoCarriers line) refused = absurd (subst IsDone refused tt)
made-headed rows start (head.CarrierNameTwice line) refused = absurd (subst IsDone refused tt)
made-headed rows start (head.ManyCarriers line) refused = absurd (subst IsDone refused tt)
made-headed rows start head.NoMemory refused = refl

bad_is_good : (IsBad : List ℕ → Type 0) (lines : List (List ℕ)) (number : ℕ) → All IsGoodLine lines → (here : IsFirstBadLine IsBad lines number) → IsGoodLine here.bad
bad_is_good IsBad lines number good here =
    let all : All IsGoodLine (here.before ++ here.bad ∷ here.after) = subst (All IsGoodLine) here.lines_are good in
    subst IsGoodLine (get_or-append_seam here.before here.bad here.after [])
    (all (length here.before) [] (omega (arith, length-append here.before (here.bad ∷ here.after))))

-- none of good lines is bad
pub none-bad : (lines : List (List ℕ)) (fault : CutFault) → All IsGoodLine lines → IsFirstBad lines fault → fault ≡ cut.NoMemory
none-bad lines (cut.NotUtf8 number) good bad = absurd (true≢false (sym (bad_is_good IsNotUtf8 lines number good bad).utf8 ∙ bad.is_bad))
none-bad lines (cut.LineLong number) good bad = absurd (omega (arith, (bad_is_good IsLongLine lines number good bad).short, bad.is_bad.long))
none-bad lines cut.NoMemory good bad = refl

-- the counts of lines that were all tallied
pub all-counted : (profile : Profile) (names lines : List (List ℕ)) (tally : Tally) (counts : Counts) → HasTakenAll Tally HasTallied profile names lines tally
    → ((first : ℕ) (reads : List Read) → HasTallied first reads tally → AreOperationCounts (operations_after first [] reads) counts)
    → AreCountedIn profile names lines counts
all-counted profile names lines tally counts all tells = record {
  ops = operations_after (first_of lines) [] all.readings;
  listed = record { readings = all.readings; read = all.read; listed = refl };
  counted = tells (first_of lines) all.readings all.taken;
}

-- the report on the passes of a sound program whose lines were all tallied
pub all-told : (profile : Profile) (loops : Bool) (names lines : List (List ℕ)) (text : List ℕ) (judgement : Judgement) (tally : Tally) (passes : ToldPasses)
    → IsJudgement loops profile names lines judgement → status_of judgement.verdict ≡ status.Done → HasTakenAll Tally HasTallied profile names lines tally
    → ((first : ℕ) (reads : List Read) → HasTallied first reads tally → AreTold (operations_after first [] reads) passes)
    → ((ops : List PassOp) (told : AreTold ops passes) → text ≡ passes_text names ops told.starts told.windows)
    → IsPassesReport profile names lines text
all-told profile loops names lines text judgement tally passes is sound all tells reports =
    let ops : List PassOp = operations_after (first_of lines) [] all.readings in
    let told : AreTold ops passes = tells (first_of lines) all.readings all.taken in
    passes-report profile loops names lines text judgement ops is sound (record { readings = all.readings; read = all.read; listed = refl }) (record {
      starts = told.starts;
      windows = told.windows;
      grouped = record { fewest = told.fewest; certificate = told.certificate; between = told.between };
      reported = reports ops told;
    })
