-- What a runner stands at while the lines of a file come, and what it comes to.
use Rattle.std.specs.Prelude.{◌≡◌, ◌⊎◌, ℕ, ◌+◌, ◌<◌, ◌≤◌, Bool, List, [], ◌∷◌, ◌++◌, length, drop, Option, None, Some, unwrap_or}
use Rattle.std.specs.List.{AllZip}
use Rattle.knit_base.specs.declared.instr.Read.{Read}
use Rattle.knit_base.specs.declared.profile.Profile.{Profile}
use Rattle.knit_base.specs.declared.rule.Fault.{Fault}
use Rattle.knit_base.specs.Limits.{IsLawfulProfile}
use Rattle.line_cutter.specs.declared.fault.CutFault.{CutFault}
use Rattle.line_cutter.specs.declared.fault.CutFault.TheVariants.{NoMemory}
use Rattle.line_cutter.specs.Cut.{IsNextRefused, GoodLineStandsAt}
use Rattle.knitout_reader.specs.declared.head.Head.{Head}
use Rattle.knitout_reader.specs.Reading.{ReadsAs}
use Rattle.knitout_reader.specs.Usual.{AreByteNames}
use Rattle.carriage_model.specs.declared.carriage.Carriage.{Carriage}
use Rattle.carriage_model.specs.Carriage.{HasRun}
use Rattle.block_summary.specs.Verdicts.{broken_line, numbered_line}
use Rattle.file_run.specs.declared.body_run.BodyRun.{BodyRun}
use Rattle.file_run.specs.declared.judgement.Run.{Run}
use Rattle.file_run.specs.declared.runner.Runner.{Runner}
use Rattle.file_run.specs.declared.taker.Nothing.{Nothing}
use Rattle.file_run.specs.Bodies.{body_of, first_of}
use Rattle.file_run.specs.Judgements.{IsJudgement}

-- what is told of readings that were taken one by one, of which the first is that of the line with this number
abbrev pub TakingReads : Type 0 → Type 1
TakingReads T = ℕ → List Read → T → Type 0

-- of what takes nothing, any readings were taken
abbrev pub HasTakenAny : TakingReads Nothing
HasTakenAny first reads nothing = Unit {0}

-- each line of the body has the reading that the grammar gives it, and the value took these readings
pub record HasTakenAll (T : Type 0) (Has : TakingReads T) (profile : Profile) (names lines : List (List ℕ)) (taker : T) : Type 0 where
  pub readings : List Read
  pub read : AllZip (ReadsAs profile names) (body_of lines) readings
  pub taken : Has (first_of lines) readings taker

-- this is the line of these with the fault's number
pub record IsBrokenLine (lines : List (List ℕ)) (fault : Fault) (broken : Option (List ℕ)) : Type 0 where
  pub some : 0 < fault.line
  pub within : fault.line ≤ length lines
  pub held : broken ≡ Some (numbered_line 1 lines fault.line)

-- the line of these at which a carriage stopped is kept, and none where it goes on
abbrev pub IsKeptText : List (List ℕ) → Option Fault → Option (List ℕ) → Type 0
IsKeptText lines None broken = broken ≡ None
IsKeptText lines (Some fault) broken = IsBrokenLine lines fault broken

-- the line is kept where none was
abbrev pub KeepsText : Option (List ℕ) → List ℕ → Option (List ℕ) → Type 0
KeepsText (Some text) line new = new ≡ Some text
KeepsText None line new = new ≡ Some line

-- the line is kept where the carriage stopped and none was, and else nothing changes
abbrev pub KeepsBroken : Option Fault → Option (List ℕ) → List ℕ → Option (List ℕ) → Type 0
KeepsBroken None old line new = new ≡ old
KeepsBroken (Some fault) old line new = KeepsText old line new

-- any readings more are taken
abbrev pub TakesAnyMore : (T : Type 0) → TakingReads T → T → Type 0
TakesAnyMore T Has taker = (first : ℕ) (reads more : List Read) → Has first reads taker → Has first (reads ++ more) taker

-- the line that begins at this place is refused, or memory ran out
abbrev pub IsRefusedHere : List ℕ → ℕ → ℕ → CutFault → Type 0
IsRefusedHere text start number fault = (fault ≡ NoMemory) ⊎ IsNextRefused text start number fault

-- a carriage has carried out the lines behind the head, what takes their readings has taken them, and the line that broke a rule is known
pub record HasRunBody (T : Type 0) (Has : TakingReads T) (with_loops : Bool) (head : Head) (lines : List (List ℕ)) (run : BodyRun T) : Type 0 where
  pub within : head.lines ≤ length lines
  pub readings : List Read
  pub read : AllZip (ReadsAs run.profile head.declared) (drop head.lines lines) readings
  pub ran : HasRun run.profile with_loops (head.lines + 1) readings run.carriage
  pub taken : Has (head.lines + 1) readings run.taker
  pub names : AreByteNames head.declared run.names
  pub broken : IsKeptText lines run.carriage.fault run.broken

-- the good line that begins at this place of the text was carried out behind whichever lines had been, and the next line begins there
pub record CarriesOut (T : Type 0) (Has : TakingReads T) (head : Head) (text : List ℕ) (start next : ℕ) (old new : BodyRun T) : Type 0 where
  pub line : List ℕ
  pub stands : GoodLineStandsAt text start line next
  pub ran : (with_loops : Bool) (lines : List (List ℕ)) → HasRunBody T Has with_loops head lines old
      → HasRunBody T Has with_loops head (lines ++ line ∷ []) new
  pub same_profile : new.profile ≡ old.profile

-- these lines were passed over, behind whichever had been carried out
pub record PassesOver (T : Type 0) (Has : TakingReads T) (lines : List (List ℕ)) (old new : BodyRun T) : Type 0 where
  pub ran : (with_loops : Bool) (head : Head) (before : List (List ℕ)) → HasRunBody T Has with_loops head before old
      → HasRunBody T Has with_loops head (before ++ lines) new
  pub same_profile : new.profile ≡ old.profile

-- so many lines had been taken, and these behind them
pub record TakesBehind (T : Type 0) (Has : TakingReads T) (head : Head) (before : ℕ) (lines : List (List ℕ)) (old new : BodyRun T) : Type 0 where
  pub ran : (with_loops : Bool) (front : List (List ℕ)) → length front ≡ before → HasRunBody T Has with_loops head front old
      → HasRunBody T Has with_loops head (front ++ lines) new
  pub same_profile : new.profile ≡ old.profile

-- a runner that has begun no body yet
pub record StandsReady (T : Type 0) (start now : Runner T) : Type 0 where
  pub same : now ≡ start
  pub lawful : IsLawfulProfile start.profile

-- a runner that began so has carried out the body of a file with this head and these lines
pub record HasRunFile (T : Type 0) (Has : TakingReads T) (head : Head) (lines : List (List ℕ)) (start now : Runner T) : Type 0 where
  pub same_way : now.with_loops ≡ start.with_loops
  pub body : BodyRun T
  pub begun : now.body ≡ Some body
  pub same_profile : body.profile ≡ start.profile
  pub ran : HasRunBody T Has start.with_loops head lines body

-- what one carriage makes of a file with these lines, the line that broke a rule, and what took the lines
pub record IsRun (T : Type 0) (Has : TakingReads T) (with_loops : Bool) (profile : Profile) (names lines : List (List ℕ)) (run : Run T) : Type 0 where
  pub judgement : IsJudgement with_loops profile names lines run.judgement
  pub broken : unwrap_or run.broken [] ≡ broken_line 1 lines run.judgement.verdict
  pub taken : HasTakenAll T Has profile names lines run.taker
