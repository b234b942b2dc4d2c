-- The summary of two blocks, one after the other.
use Rattle.std.specs.Prelude.{ℕ, ◌+◌, List, [], ◌∷◌, ◌++◌, Option, Some, None, bit_or}
use Rattle.std.specs.declared.cmp.Ordering.{Ordering}
use Rattle.std.specs.declared.cmp.Ordering.TheVariants.{Less, Equal, Greater}
use Rattle.knit_base.specs.declared.rule.Fault.{Fault}
use Rattle.knit_base.specs.Needle.{needle_cmp}
use Rattle.knit_base.specs.Yarns.{without_set}
use Rattle.carriage_model.specs.State.{State}
use Rattle.face_data.specs.declared.face.Effect.{Effect}
use Rattle.face_data.specs.declared.face.Ending.{Ending}
use Rattle.face_data.specs.declared.face.Ending.TheVariants.{Through, Broken}
use Rattle.face_data.specs.Answers.{ConditionAnswer, read_answer}
use Rattle.face_data.specs.Answers.ConditionAnswer.{yes_it_does, no_it_does_not, asks}
use Rattle.face_data.specs.declared.bearing.Bearing.{Bearing}
use Rattle.face_data.specs.Bearings.{bearing}
use Rattle.face_data.specs.declared.bearing.Bearing.TheVariants.{Implied, Refuted, Silent}
use Rattle.face_data.specs.Conditions.{Ask}
use Rattle.face_data.specs.declared.face.Last.{Last}
use Rattle.face_data.specs.Lasts.{lasts_of_both}
use Rattle.face_data.specs.Segments.{Changed}
use Rattle.face_data.specs.Summaries.{AskedCondition, Summary, Outcome, fault_raised}
use Rattle.face_data.specs.Summaries.Outcome.{went_on, faulted}
use Rattle.face_data.specs.Through.{changes_through}

-- one of three lists
abbrev pub by_order : Ordering → List Changed → List Changed → List Changed → List Changed
by_order Less less equal greater = less
by_order Equal less equal greater = equal
by_order Greater less equal greater = greater

-- the first list's first change before its others, which `rest` merges with a list, and the second list
abbrev pub merged_from : Changed → (List Changed → List Changed) → List Changed → List Changed
merged_from a rest [] = a ∷ rest []
merged_from a rest (b ∷ bs) = by_order (needle_cmp a.0 b.0) (a ∷ rest (b ∷ bs)) (b ∷ rest bs) (b ∷ merged_from a rest bs)

-- two lists in the order of needles as one. Where both change a needle, the second list counts
abbrev pub changes_merged : List Changed → List Changed → List Changed
changes_merged [] bs = bs
changes_merged (a ∷ others) bs = merged_from a (changes_merged others) bs

-- what an earlier condition says, or else this answer
abbrev pub from_bearing : Bearing → ConditionAnswer → ConditionAnswer
from_bearing Implied rest = yes_it_does
from_bearing Refuted rest = no_it_does_not
from_bearing Silent rest = rest

-- what the kept conditions say of a condition, the oldest one that says anything, where all of them hold
unfoldable pub answer_of_kept : List AskedCondition → Ask → ConditionAnswer
answer_of_kept [] ask = asks ask
answer_of_kept (c ∷ cs) ask = from_bearing (bearing c.ask ask) (answer_of_kept cs ask)

-- the same of an answer: only a condition is left to ask
abbrev pub against_kept : List AskedCondition → ConditionAnswer → ConditionAnswer
against_kept kept yes_it_does = yes_it_does
against_kept kept no_it_does_not = no_it_does_not
against_kept kept (asks ask) = answer_of_kept kept ask

-- the conditions that are kept, and the fault at which both blocks are known to stop
pub record Gathering : Type 0 where
  pub checks : List AskedCondition
  pub stop : Option Fault

-- a condition with this answer and this fault, and then the others
abbrev pub next : ConditionAnswer → List AskedCondition → Fault → (List AskedCondition → Gathering) → Gathering
next yes_it_does kept fault go = go kept
next no_it_does_not kept fault go = record { checks = kept; stop = Some fault }
next (asks ask) kept fault go = go (kept ++ record { fault = fault; ask = ask } ∷ [])

-- the second block's conditions, read through the first block's effect, changes and lines, and held against those kept so far
unfoldable pub reads : Effect → List Last → List Changed → ℕ → List AskedCondition → List AskedCondition → Gathering
reads effect lasts changes lines kept [] = record { checks = kept; stop = None }
reads effect lasts changes lines kept (c ∷ cs) =
    next (against_kept kept (read_answer effect lasts changes c.ask)) kept (fault_raised lines c.fault) (λ ks. reads effect lasts changes lines ks cs)

-- the new value, where there is one
abbrev pub or_old : {X : Type 0} → Option X → Option X → Option X
or_old None old = old
or_old (Some x) old = Some x

-- both effects, one after the other
abbrev pub effect_of_both : Effect → Effect → Effect
effect_of_both first second = record {
  rack = or_old second.rack first.rack;
  came = bit_or (without_set first.came second.went) second.came;
  went = bit_or (without_set first.went second.came) second.went;
  hook = or_old second.hook first.hook;
}

-- the second block's ending after a first one of so many lines and this effect
abbrev pub ending_after : ℕ → Effect → Ending → Ending
ending_after lines effect (Broken fault) = Broken (fault_raised lines fault)
ending_after lines effect (Through more) = Through (effect_of_both effect more)

-- a broken block makes nothing that counts
abbrev pub made_with : Ending → ℕ → ℕ
made_with (Broken fault) made = 0
made_with (Through effect) made = made

-- nor changes anything
abbrev pub changes_with : Ending → List Changed → List Changed
changes_with (Broken fault) changes = []
changes_with (Through effect) changes = changes

-- nor any last needle
abbrev pub lasts_with : Ending → List Last → List Last
lasts_with (Broken fault) lasts = []
lasts_with (Through effect) lasts = lasts

-- the summary of both, with these checks, where both are known to stop at a fault or aren't
abbrev pub closed_at : Option Fault → List AskedCondition → Effect → Summary → Summary → Summary
closed_at (Some fault) checks effect a b = record { lines = a.lines + b.lines; made = 0; checks = checks; changes = []; lasts = []; ending = Broken fault }
closed_at None checks effect a b = record {
  lines = a.lines + b.lines;
  made = made_with b.ending (a.made + b.made);
  checks = checks;
  changes = changes_with b.ending (changes_merged a.changes (changes_through a.changes a.lines b.changes));
  lasts = lasts_with b.ending (lasts_of_both a.lasts b.lasts);
  ending = ending_after a.lines effect b.ending;
}

-- the same of what was gathered
abbrev pub gathering_closed : Gathering → Effect → Summary → Summary → Summary
gathering_closed gathered effect a b = closed_at gathered.stop gathered.checks effect a b

-- nothing is asked after a block that ends broken
abbrev pub composed_at : Ending → Summary → Summary → Summary
composed_at (Broken fault) a b = record { lines = a.lines + b.lines; made = 0; checks = a.checks; changes = []; lasts = []; ending = Broken fault }
composed_at (Through effect) a b = gathering_closed (reads effect a.lasts a.changes a.lines a.checks b.checks) effect a b

-- the summary of a's block and then b's
abbrev pub composed : Summary → Summary → Summary
composed a b = composed_at a.ending a b

-- a block after what came of those before it
abbrev pub and_then : Outcome → (State → Outcome) → Outcome
and_then (went_on s) go = go s
and_then (faulted fault) go = faulted fault
