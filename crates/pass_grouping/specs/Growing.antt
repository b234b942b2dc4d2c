-- Operations that are grouped as they come.
use Rattle.std.specs.Prelude.{◌≡◌, ℕ, ◌+◌, ◌-◌, ◌<◌, ◌≤◌, List, [], ◌∷◌, ◌++◌, Option, None, Some, length, map, flat_map, All}
use Rattle.std.proofs.Common.{get_or}
use Rattle.knit_base.specs.declared.needle.Dir.{Dir}
use Rattle.pass_grouping.specs.declared.certificate.Window.{Window}
use Rattle.pass_grouping.specs.declared.fact.PassFact.{PassFact}
use Rattle.pass_grouping.specs.declared.growing.Begun.{Begun}
use Rattle.pass_grouping.specs.declared.growing.Growing.{Growing}
use Rattle.pass_grouping.specs.declared.operation.PassOp.{PassOp}
use Rattle.pass_grouping.specs.Facts.{told_of, way_of}
use Rattle.pass_grouping.specs.Groupings.{ranges_from_starts, first_or, operations_in, IsPass, IsWindow, between_starts}
use Rattle.pass_grouping.specs.Passes.{GoesOneWay, IsBeyond}

-- the operations before this one are grouped, the last part from this start on
pub record Grouped (ops : List PassOp) (starts : List ℕ) (windows : List Window) (start behind : ℕ) : Type 0 where
  pub first : first_or starts (length ops) ≡ 0
  pub passes : All (IsPass ops) (ranges_from_starts starts behind)
  pub between : windows ≡ between_starts starts
  pub hold : All (IsWindow ops) windows
  pub counts : length starts ≡ length windows + 1
  pub earlier : List ℕ
  pub last : starts ≡ earlier ++ start ∷ []
  pub some : start < behind
  pub within : behind ≤ length ops
  pub few : length starts ≤ behind

-- the last pass begins with this operation, and goes this way once it has two
abbrev pub GoesSo : Option Dir → List PassOp → ℕ → Type 0
GoesSo None ops start = start + 1 ≡ length ops
GoesSo (Some way) ops start = (start + 1 < length ops) × GoesOneWay way ops start (length ops - 1)

-- what is told of a pass that began so, where this is its last operation, and so many operations are behind its end
abbrev pub fact_now : Begun → PassOp → ℕ → PassFact
fact_now begun last operations = record {
  first_line = begun.line;
  last_line = last.line;
  count = operations - begun.before;
  class = last.class;
  way = way_of last.dir begun.place last.place;
  yarns = last.yarns;
}

-- the last pass began so: with the operation at this place
pub record BeganSo (ops : List PassOp) (start : ℕ) (begun : Begun) : Type 0 where
  pub line : (d : PassOp) → (get_or ops start d).line ≡ begun.line
  pub place : (d : PassOp) → (get_or ops start d).place ≡ begun.place
  pub before : begun.before ≡ start

-- Whatever comes behind these operations, of which this is the last: the passes that ended among them are told, and the last pass
-- began so and goes this way.
pub record AreGoing (ops : List PassOp) (op : PassOp) (growing : Growing) : Type 0 where
  pub earlier : List ℕ
  pub windows : List Window
  pub start : ℕ
  pub grouped : (more : List PassOp) → Grouped (ops ++ more) (earlier ++ start ∷ []) windows start (length ops)
  pub told : (more : List PassOp) → growing.ended ≡ flat_map told_of (map (operations_in (ops ++ more)) (ranges_from_starts earlier start))
  pub counted : length growing.ended ≡ length earlier
  pub began : BeganSo ops start growing.begun
  pub ends : (d : PassOp) → get_or ops (length ops - 1) d ≡ op
  pub goes : GoesSo growing.way ops start

-- no pass has begun, or this is the last operation of the last one
abbrev pub IsGoingBehind : Option PassOp → List PassOp → Growing → Type 0
IsGoingBehind None ops growing = (ops ≡ []) × (growing.ended ≡ [])
IsGoingBehind (Some op) ops growing = AreGoing ops op growing

-- these operations are grouped
pub record IsGrowing (ops : List PassOp) (growing : Growing) : Type 0 where
  pub operations : growing.operations ≡ length ops
  pub going : IsGoingBehind growing.last ops growing

-- an operation that lies in some way of the last one lies in this one, or else isn't of the last one's pass
abbrev pub IsGoingWay : Option Dir → PassOp → PassOp → Dir → Type 0
IsGoingWay None last op told = (way : Dir) → IsBeyond way last.place op.place → way ≡ told
IsGoingWay (Some way) last op told = way ≡ told
