-- The loops made as the program keeps them: all their yarns in one list, and the lines of the loops that they are drawn through
-- in another.
use Rattle.std.specs.Prelude.{ℕ, ◌<◌, ◌≤◌, ◌^◌, List, length, All}
use Rattle.std.specs.List.{slice_range}
use Rattle.knit_base.specs.declared.yarns.CarrierNo.{CarrierNo}
use Rattle.carriage_model.specs.declared.fact_list.ListStretch.{ListStretch}
use Rattle.carriage_model.specs.declared.fact_list.FactHead.{FactHead}
use Rattle.carriage_model.specs.declared.fact_list.FactRef.{FactRef}
use Rattle.carriage_model.specs.declared.verdict.LoopFact.{LoopFact}

-- the items of the stretch
abbrev pub stretch_of : {X : Type 0} → List X → ListStretch → List X
stretch_of items stretch = slice_range items stretch.start stretch.end

-- the stretch lies in a list of so many items
pub record LiesInList (count : ℕ) (stretch : ListStretch) : Type 0 where
  pub ordered : stretch.start ≤ stretch.end
  pub inside : stretch.end ≤ count

-- the loop with this head
abbrev pub fact_with : List CarrierNo → List ℕ → FactHead → LoopFact
fact_with yarns through head = record {
  line = head.line;
  needle = head.needle;
  dir = head.dir;
  yarns = stretch_of yarns head.yarns;
  through = stretch_of through head.through;
}

-- both stretches of the loop lie in their lists
pub record HasStretches (yarns : List CarrierNo) (through : List ℕ) (head : FactHead) : Type 0 where
  pub of_yarns : LiesInList (length yarns) head.yarns
  pub of_through : LiesInList (length through) head.through

-- the lists have what each loop names, and the loops can be counted in 32 bits
pub record StoresFacts (heads : List FactHead) (yarns : List CarrierNo) (through : List ℕ) : Type 0 where
  pub few : length heads < 2 ^ 32
  pub stretches : All (HasStretches yarns through) heads

-- the loop that is lent
abbrev pub lent_fact : FactRef → LoopFact
lent_fact fact = record { line = fact.line; needle = fact.needle; dir = fact.dir; yarns = fact.yarns.now; through = fact.through.now }
