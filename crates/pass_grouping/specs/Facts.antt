-- What is told of each pass.
use Rattle.std.specs.Prelude.{ℕ, ℤ, int_lt, Option, None, Some, List, [], ◌∷◌, length, flat_map, if◌then◌else◌}
use Rattle.knit_base.specs.declared.needle.Dir.{Dir}
use Rattle.knit_base.specs.declared.needle.Dir.TheVariants.{Right, Left}
use Rattle.pass_grouping.specs.declared.fact.PassFact.{PassFact}
use Rattle.pass_grouping.specs.declared.operation.PassOp.{PassOp}
use Rattle.pass_grouping.specs.Groupings.{passes_from}

-- the last of some operations, of which this is the first
abbrev pub last_of : PassOp → List PassOp → PassOp
last_of op [] = op
last_of op (next ∷ more) = last_of next more

-- the direction that is written, or else leftward where the last place lies left of the first
abbrev pub way_of : Option Dir → ℤ → ℤ → Dir
way_of (Some dir) first last = dir
way_of None first last = if int_lt last first then Left else Right

-- what is told of a pass with these ends and so many operations, which are of one class and have the same carriers
abbrev pub fact_between : PassOp → PassOp → ℕ → PassFact
fact_between first last count = record {
  first_line = first.line;
  last_line = last.line;
  count = count;
  class = first.class;
  way = way_of first.dir first.place last.place;
  yarns = first.yarns;
}

-- what is told of a pass with these operations
abbrev pub told_of : List PassOp → List PassFact
told_of [] = []
told_of (first ∷ more) = fact_between first (last_of first more) (length (first ∷ more)) ∷ []

-- what is told of each pass, where the passes begin with these operations
abbrev pub pass_facts : List PassOp → List ℕ → List PassFact
pass_facts ops starts = flat_map told_of (passes_from ops starts)
