-- Which run a carriage stands for that carried out some lines.
use Rattle.std.specs.Prelude.{◌≡◌, ℕ, ◌+◌, Bool, not, ◌&&◌, List, [], ◌∷◌, ◌++◌, length, Option, None, Some, is_some}
use Rattle.std.specs.Option.{is_none, option_to_list}
use Rattle.knit_base.specs.Limits.{IsLawfulProfile}
use Rattle.knit_base.specs.declared.instr.Read.{Read}
use Rattle.knit_base.specs.declared.profile.Profile.{Profile}
use Rattle.carriage_model.specs.declared.carriage.Carriage.{Carriage}
use Rattle.carriage_model.specs.declared.verdict.LoopFact.{LoopFact}
use Rattle.carriage_model.specs.declared.verdict.Verdict.{Verdict}
use Rattle.carriage_model.specs.State.{State, empty_state}
use Rattle.carriage_model.specs.Loops.{loops_made, loops_asked, fact_made}
use Rattle.carriage_model.specs.Machine.{HasNeedlesOf, IsSameKind, Represents, StandsAsBefore}
use Rattle.carriage_model.specs.Run.{run, Ended, Ends, Stops}
use Rattle.carriage_model.specs.Steps.{step}
use Rattle.carriage_model.specs.Verdict.{HoldsFew, IsVerdict}

-- the machine that the carriage works
abbrev pub profile_of : Carriage → Profile
profile_of carriage = carriage.profile

-- how many lines the carriage has carried out or passed over
abbrev pub line_count : Carriage → ℕ
line_count carriage = carriage.lines

-- whether the carriage has come to a line that breaks a rule
abbrev pub is_stopped : Carriage → Bool
is_stopped carriage = is_some carriage.fault

-- the number of the line that comes next
abbrev pub next_carriage_line : Carriage → ℕ
next_carriage_line carriage = carriage.first + carriage.lines

-- the carriage stands where a run ended: in its last state, or before the line that broke a rule
abbrev pub StandsAfter : Carriage → Ended → Type 0
StandsAfter carriage (Ends s) = (carriage.fault ≡ None) × Represents carriage.machine s
StandsAfter carriage (Stops s fault) = carriage.fault ≡ Some fault

-- the carriage has carried out these lines from empty beds, the first of them with this number, and has kept their loops where
-- that is asked
pub record HasRun (profile : Profile) (with_loops : Bool) (first : ℕ) (reads : List Read) (carriage : Carriage) : Type 0 where
  pub lawful : IsLawfulProfile profile
  pub same_profile : profile_of carriage ≡ profile
  pub needles : HasNeedlesOf profile carriage.machine
  pub first_line : carriage.first ≡ first
  pub lines : line_count carriage ≡ length reads
  pub stands : StandsAfter carriage (run profile empty_state first reads)
  pub made : carriage.made ≡ length (loops_made profile empty_state first reads)
  pub loops : carriage.loops ≡ loops_asked with_loops (loops_made profile empty_state first reads)
  pub plain : carriage.is_plain ≡ (not with_loops && is_none profile.float)

-- the carriage has carried out some lines
abbrev pub IsRunning : Carriage → Type 0
IsRunning carriage = (with_loops : Bool) × (first : ℕ) × (reads : List Read) × HasRun (profile_of carriage) with_loops first reads carriage

-- whichever lines the carriage had carried out, it has now carried out this one behind them
abbrev pub RanOn : Read → Carriage → Carriage → Type 0
RanOn r old new = (profile : Profile) (with_loops : Bool) (first : ℕ) (reads : List Read) → HasRun profile with_loops first reads old → HasRun profile with_loops first (reads ++ r ∷ []) new

-- whichever lines the carriage had carried out, these are the lines that it has carried out
abbrev pub RunsAsBefore : Carriage → Carriage → Type 0
RunsAsBefore old new = (profile : Profile) (with_loops : Bool) (first : ℕ) (reads : List Read) → HasRun profile with_loops first reads old → HasRun profile with_loops first reads new

-- the verdict on a run of these lines, and the loops that they make where that is asked
pub record TellsRun (profile : Profile) (with_loops : Bool) (first : ℕ) (reads : List Read) (verdict : Verdict) (loops : Option (List LoopFact)) : Type 0 where
  pub verdict_is : IsVerdict (length reads) verdict (run profile empty_state first reads) (loops_made profile empty_state first reads)
  pub loops_are : loops ≡ loops_asked with_loops (loops_made profile empty_state first reads)
  pub few : HoldsFew verdict

-- the loops, where they are kept, and the loop of one line more
abbrev pub loops_with : Option (List LoopFact) → Option LoopFact → Option (List LoopFact)
loops_with None fact = None
loops_with (Some loops) fact = Some (loops ++ option_to_list fact)

-- line k was carried out, which breaks no rule
pub record WentOver (k : ℕ) (r : Read) (old new : Carriage) : Type 0 where
  pub same_profile : new.profile ≡ old.profile
  pub same_way : new.is_plain ≡ old.is_plain
  pub first_line : new.first ≡ old.first
  pub lines : new.lines ≡ old.lines + 1
  pub fault : new.fault ≡ old.fault
  pub kind : IsSameKind old.machine new.machine
  pub machine : (s : State) → old.machine.keeps_lasts ≡ is_some old.profile.float → Represents old.machine s → Represents new.machine (step old.profile k r s)
  pub made : (s : State) → new.made ≡ old.made + length (option_to_list (fact_made k r s))
  pub loops : (s : State) → Represents old.machine s → new.loops ≡ loops_with old.loops (fact_made k r s)

-- no line was carried out
pub record StandsStill (old new : Carriage) : Type 0 where
  pub same_profile : new.profile ≡ old.profile
  pub same_way : new.is_plain ≡ old.is_plain
  pub first_line : new.first ≡ old.first
  pub lines : new.lines ≡ old.lines
  pub fault : new.fault ≡ old.fault
  pub machine : StandsAsBefore old.machine new.machine
  pub made : new.made ≡ old.made
  pub loops : new.loops ≡ old.loops
