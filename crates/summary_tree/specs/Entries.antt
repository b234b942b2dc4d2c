-- What a needle holds behind some leaves of a document. No public contract speaks of it.
use Rattle.std.specs.Prelude.{◌≡◌, ℕ, ◌+◌, List, All}
use Rattle.knit_base.specs.declared.needle.Needle.{Needle}
use Rattle.carriage_model.specs.State.{State, empty_state}
use Rattle.face_data.specs.declared.face.Seg.{Seg}
use Rattle.face_data.specs.Segments.{read_segs}
use Rattle.face_data.specs.Summaries.Outcome.{went_on}
use Rattle.loop_history.specs.Tables.{IsOfEarlier}
use Rattle.summary_tree.specs.Leaves.{Leaf, leaf_line_count, applied_each}

-- What the needle holds behind all leaves, run from empty beds, is told from the state behind the first of them: the segments are
-- read there, and their own lines are those of the other leaves.
pub record IsToldBehind (all : List Leaf) (needle : Needle) (some : List Leaf) (segs : List Seg) : Type 0 where
  pub others : ℕ
  pub lines : leaf_line_count some + others ≡ leaf_line_count all
  pub offsets : All (IsOfEarlier others) segs
  pub told : (first : ℕ) (s : State) → applied_each all empty_state first ≡ went_on s
      → (t : State) × (applied_each some empty_state first ≡ went_on t) × (s.stacks needle ≡ read_segs t (first + leaf_line_count some) segs)
