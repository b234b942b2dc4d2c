-- One pass of the carriage over a range of operations.
use Rattle.std.specs.Prelude.{◌≡◌, ◌⊎◌, ℕ, ℤ, ◌<ℤ◌, ◌<◌, ◌≤◌, List, Option, None, Some}
use Rattle.std.proofs.Common.{get_or}
use Rattle.knit_base.specs.declared.needle.Dir.{Dir}
use Rattle.knit_base.specs.declared.needle.Dir.TheVariants.{Right, Left}
use Rattle.pass_grouping.specs.declared.operation.Class.{Class}
use Rattle.pass_grouping.specs.declared.operation.Class.TheVariants as class
use Rattle.pass_grouping.specs.declared.operation.PassOp.{PassOp}

-- the same stretch, class, direction, and list of carriers
pub record AreOneKindOfOperation (a b : PassOp) : Type 0 where
  pub stretch : a.stretch ≡ b.stretch
  pub class : a.class ≡ b.class
  pub dir : a.dir ≡ b.dir
  pub yarns : a.yarns ≡ b.yarns

-- the way of the carriage that an operation asks for: that of its direction where it forms loops, and none elsewhere
abbrev pub way_asked : Class → Option Dir → Option Dir
way_asked class.Form dir = dir
way_asked class.Split dir = dir
way_asked class.Move dir = None
way_asked class.Drop dir = None

-- where a way is asked for, it is this one
abbrev pub IsFree : Option Dir → Dir → Type 0
IsFree None way = Unit {0}
IsFree (Some asked) way = asked ≡ way

-- the second place lies this way of the first
abbrev pub IsBeyond : Dir → ℤ → ℤ → Type 0
IsBeyond Right a b = a <ℤ b
IsBeyond Left a b = b <ℤ a

-- the second operation may come later than the first in one pass that goes this way
pub record Follows (way : Dir) (a b : PassOp) : Type 0 where
  pub alike : AreOneKindOfOperation a b
  pub free : IsFree (way_asked a.class a.dir) way
  pub place : IsBeyond way a.place b.place

-- of any two operations of the range, both ends counted, the later one follows the earlier one in a pass that goes this way
pub record GoesOneWay (way : Dir) (ops : List PassOp) (from to : ℕ) : Type 0 where
  pub pairs : (i j : ℕ) (d : PassOp) → from ≤ i → i < j → j ≤ to → Follows way (get_or ops i d) (get_or ops j d)

-- the range, both ends counted, is one pass
abbrev pub IsOnePass : List PassOp → ℕ → ℕ → Type 0
IsOnePass ops from to = GoesOneWay Right ops from to ⊎ GoesOneWay Left ops from to
