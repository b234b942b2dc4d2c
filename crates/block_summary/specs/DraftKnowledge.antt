-- What is known of the lines read so far.
use Rattle.std.specs.Prelude.{◌≡◌, ◌≤◌, ◌<ℤ◌, ℕ, pos, Bool, true, false, List, [], ◌∷◌, ◌++◌, All, Option, None, Some, map, fold}
use Rattle.std.specs.List.{Contains, flat_map}
use Rattle.knit_base.specs.declared.needle.Needle.{Needle}
use Rattle.knit_base.specs.declared.rule.Fault.{Fault}
use Rattle.knit_base.specs.declared.rule.Reason.{Reason}
use Rattle.knit_base.specs.declared.yarns.CarrierNo.{CarrierNo}
use Rattle.knit_base.specs.Needle.{own_slider}
use Rattle.face_data.specs.declared.digest.Digest.{Digest}
use Rattle.face_data.specs.declared.face.Check.{Check}
use Rattle.face_data.specs.declared.face.Cond.{Cond}
use Rattle.face_data.specs.declared.face.Effect.{Effect}
use Rattle.face_data.specs.declared.face.Last.{Last}
use Rattle.face_data.specs.declared.face.Ending.{Ending}
use Rattle.face_data.specs.declared.face.Ending.TheVariants.{Through, Broken}
use Rattle.face_data.specs.declared.face.Seg.TheVariants.{New}
use Rattle.face_data.specs.declared.sizes.SizeAsk.{SizeAsk}
use Rattle.face_data.specs.Answers.{ConditionAnswer, read_answer}
use Rattle.face_data.specs.Answers.ConditionAnswer.{yes_it_does, no_it_does_not, asks}
use Rattle.face_data.specs.Composition.{against_kept, changes_merged, reads, Gathering}
use Rattle.face_data.specs.Conditions.{Ask, ask_of}
use Rattle.face_data.specs.Conditions.Ask.{last_near, size_at_most}
use Rattle.face_data.specs.Digests.{CarrierFits, IsUnsized, digest_of}
use Rattle.face_data.specs.Drafts.{no_effect}
use Rattle.face_data.specs.Goodness.{IsInOrder, IsIrredundant}
use Rattle.face_data.specs.Segments.{Changed, segments_on}
use Rattle.face_data.specs.Summaries.{AskedCondition, Summary}
use Rattle.face_data.specs.View.{ChecksFit, asked_of_check, size_needles_of}

-- what lines do that go through
abbrev pub effect_in : Ending → Effect
effect_in (Through effect) = effect
effect_in (Broken fault) = no_effect

-- the condition is known to hold after lines with these conditions, this effect, these last needles and these changes
abbrev pub IsConditionKnown : List AskedCondition → Effect → List Last → List Changed → Ask → Type 0
IsConditionKnown kept effect lasts changes ask = against_kept kept (read_answer effect lasts changes ask) ≡ yes_it_does

-- the same after the lines of a summary
abbrev pub HoldsAfter : Summary → Ask → Type 0
HoldsAfter summary ask = IsConditionKnown summary.checks (effect_in summary.ending) summary.lasts summary.changes ask

-- the own slider of the needle is known to hold nothing
abbrev pub IsBare : List AskedCondition → Effect → List Last → List Changed → Option Needle → Type 0
IsBare kept effect lasts changes None = Unit {0}
IsBare kept effect lasts changes (Some n) = IsConditionKnown kept effect lasts changes (size_at_most (own_slider n ∷ []) 0)

-- the parts of the kept conditions make up the list of names, the digest is that of the conditions, and none of them says anything of a later one
pub record KeepsConditions (names : List Needle) (checks : List Check) (digest : Digest) : Type 0 where
  pub fit : ChecksFit names checks
  pub whole : flat_map (λ (c : Check). size_needles_of names c.cond) checks ≡ names
  pub digest_is : digest ≡ digest_of (map (asked_of_check names) checks)
  pub irredundant : IsIrredundant (map (asked_of_check names) checks)

-- there are no more loops than lines, the changes stand in the order of needles, and the needles of the table are bare
pub record IsDraft (lines made : ℕ) (kept : List AskedCondition) (effect : Effect) (lasts : List Last) (changes : List Changed) (bare : List (Option Needle)) : Type 0 where
  pub few : made ≤ lines
  pub order : IsInOrder changes
  pub bare_are : All (IsBare kept effect lasts changes) bare

-- what asking makes of a summary, where this is known of the condition: it is kept with this fault if it is left to ask, and
-- where it can't hold the lines can't go on
abbrev pub Took : ConditionAnswer → Summary → Summary → Fault → Bool → Type 0
Took yes_it_does old new fault goes = (goes ≡ true) × (new ≡ old)
Took no_it_does_not old new fault goes = (goes ≡ false) × (new ≡ old)
Took (asks ask) old new fault goes = (goes ≡ true) × (new ≡ record old { checks = old.checks ++ record { fault = fault; ask = ask } ∷ [] })

-- the condition was asked after the lines of a summary
abbrev pub HasAsked : Summary → Summary → Fault → Ask → Bool → Type 0
HasAsked old new fault ask goes = Took (against_kept old.checks (read_answer (effect_in old.ending) old.lasts old.changes ask)) old new fault goes

-- the conditions that are left, read after the lines of a summary
abbrev pub reads_after : Summary → List AskedCondition → Gathering
reads_after summary left = reads (effect_in summary.ending) summary.lasts summary.changes summary.lines summary.checks left

-- the same after one that can't hold for this reason, and after none
abbrev pub reads_or_stops : Option Reason → Summary → List AskedCondition → Gathering
reads_or_stops None summary left = reads_after summary left
reads_or_stops (Some reason) summary left = record { checks = summary.checks; stop = Some (record { line = summary.lines; reason = reason }) }

-- some of the conditions were asked after the lines of a summary, one after the other, and these are left
pub record HaveAsked (old new : Summary) (all left : List AskedCondition) : Type 0 where
  pub rest_stays : new ≡ record old { checks = new.checks }
  pub so_far : (more : List AskedCondition) → reads_after old (all ++ more) ≡ reads_after new (left ++ more)

-- the conditions were asked after the lines of a summary, one after the other, up to one that can't hold, if there is one
pub record HasAskedAll (old new : Summary) (all : List AskedCondition) (stop : Option Reason) : Type 0 where
  pub rest_stays : new ≡ record old { checks = new.checks }
  pub asked_are : (more : List AskedCondition) → reads_after old (all ++ more) ≡ reads_or_stops stop new more

-- the condition isn't on sizes, and its carrier is one of 64
abbrev pub CanBeAsked : Reason × Cond → Type 0
CanBeAsked c = CarrierFits c.1 × IsUnsized (ask_of [] c.1)

-- the condition was asked, where the test says so, and else nothing was done
abbrev pub HasAskedIf : Bool → Summary → Summary → Fault → Ask → Bool → Type 0
HasAskedIf true old new fault ask goes = HasAsked old new fault ask goes
HasAskedIf false old new fault ask goes = (goes ≡ true) × (new ≡ old)

-- the floats of these carriers to a loop on the needle are known to be short enough, where there is a limit
abbrev pub AreNearIn : Summary → Option ℕ → Needle → List CarrierNo → Type 0
AreNearIn summary limit n cs = (float : ℕ) (c : CarrierNo) → limit ≡ Some float → Contains cs c → HoldsAfter summary (last_near c n.at float)

-- a condition on sizes allows fewer loops than a byte counts
abbrev pub IsSmall : SizeAsk → Type 0
IsSmall ask = ask.max <ℤ pos 256

-- one change after the other is put into the changes
abbrev pub changes_written : List Changed → List Changed → List Changed
changes_written changes more = fold (λ held (c : Changed). changes_merged held (c ∷ [])) changes more

-- one more loop, of the line with this offset, on the needle
abbrev pub with_loop_on : Option Needle → ℕ → List Changed → List Changed
with_loop_on None offset changes = changes
with_loop_on (Some n) offset changes = changes_merged changes ((n, segments_on changes n ++ New offset ∷ []) ∷ [])

-- the lines of a summary, known to stop at this fault
abbrev pub stopped_at : Fault → Summary → Summary
stopped_at fault summary = record { lines = summary.lines; made = 0; checks = summary.checks; changes = []; lasts = []; ending = Broken fault }
