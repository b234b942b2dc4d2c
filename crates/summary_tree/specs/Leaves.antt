-- The leaves of a tree, and the face of all of them.
use Rattle.std.specs.Prelude.{◌≡◌, ℕ, ◌+◌, ◌<◌, ◌≤◌, ◌^◌, List, [], ◌∷◌, length, All, Option}
use Rattle.std.specs.List.{AllZip, flat_map, sum_by}
use Rattle.knit_base.specs.declared.instr.Read.{Read}
use Rattle.knit_base.specs.declared.needle.Needle.{Needle}
use Rattle.knit_base.specs.declared.profile.Profile.{Profile}
use Rattle.carriage_model.specs.State.{State}
use Rattle.face_data.specs.declared.face.FaceView.{FaceView}
use Rattle.face_data.specs.Composition.{and_then, composed}
use Rattle.face_data.specs.Goodness.{IsGood}
use Rattle.face_data.specs.Items.{items, most_items}
use Rattle.face_data.specs.Segments.{Changed, new_of}
use Rattle.face_data.specs.Stands.{StandsFor}
use Rattle.face_data.specs.Summaries.{Summary, Outcome, summary_outcome}
use Rattle.face_data.specs.Summaries.Outcome.{went_on}
use Rattle.face_data.specs.Spots.{IsNumbered}
use Rattle.face_data.specs.View.{IsPacked, summary_of}
use Rattle.loop_history.specs.declared.row.LoopRow.{LoopRow}
use Rattle.summary_tree.specs.Rooms.{kept_room}
use Rattle.summary_compose.specs.declared.room.Room.{Room}
use Rattle.value_tree.specs.Found.{found_in}

-- a leaf: the summary of a block, and the loops that it makes
abbrev pub Leaf : Type 0
Leaf = Summary × List LoopRow

-- how many lines the leaves have
abbrev pub leaf_line_count : List Leaf → ℕ
leaf_line_count [] = 0
leaf_line_count (leaf ∷ leaves) = leaf.0.lines + leaf_line_count leaves

-- a summary is good for so many carriers, this limit on the loops of a needle, and some needles whose numbers have 16 bits
pub record IsGoodFor (carriers limit : ℕ) (summary : Summary) : Type 0 where
  pub known : List Needle
  pub numbered : All IsNumbered known
  pub good : IsGood carriers limit known summary

-- each leaf's summary is good for so many carriers, this limit on the loops of a needle, and these needles
abbrev pub AreGoodFor : ℕ → ℕ → List Needle → List Leaf → Type 0
AreGoodFor carriers limit known [] = Unit {0}
AreGoodFor carriers limit known (leaf ∷ leaves) = IsGood carriers limit known leaf.0 × AreGoodFor carriers limit known leaves

-- leaves that may stand in one tree
pub record AreSound (leaves : List Leaf) : Type 0 where
  pub carriers : ℕ
  pub limit : ℕ
  pub few_carriers : carriers ≤ 64
  pub few_loops : limit < 2 ^ 8
  pub good : All (λ (leaf : Leaf). IsGoodFor carriers limit leaf.0) leaves
  pub few_leaves : length leaves ≤ 65536
  pub few_lines : leaf_line_count leaves ≤ 1048576

-- the same of leaves that are good for the same needles
pub record StandTogether (leaves : List Leaf) : Type 0 where
  pub carriers : ℕ
  pub limit : ℕ
  pub known : List Needle
  pub few_carriers : carriers ≤ 64
  pub few_loops : limit < 2 ^ 8
  pub numbered : All IsNumbered known
  pub good : AreGoodFor carriers limit known leaves
  pub few_lines : leaf_line_count leaves ≤ 1048576

-- how a document ends whose blocks are carried out one after the other, from a state and a first line on
abbrev pub applied_each : List Leaf → State → ℕ → Outcome
applied_each [] s first = went_on s
applied_each (leaf ∷ leaves) s first = and_then (summary_outcome leaf.0 s first) (λ t. applied_each leaves t (first + leaf.0.lines))

-- each leaf stands for a text's lines
abbrev pub EachStandsFor : Profile → List Leaf → List (List Read) → Type 0
EachStandsFor profile leaves blocks = AllZip (λ (leaf : Leaf) (lines : List Read). StandsFor profile leaf.0 lines) leaves blocks

-- the lines of all texts
abbrev pub all_lines : List (List Read) → List Read
all_lines blocks = flat_map (λ (block : List Read). block) blocks

-- The summary of all leaves, one after the other: it has their lines, does what they do, is good for what they are good for, and
-- stands for the lines of all texts for which they stand.
pub record IsWholeOf (leaves : List Leaf) (whole : Summary) : Type 0 where
  pub lines : whole.lines ≡ leaf_line_count leaves
  pub runs_all : (s : State) (first : ℕ) → summary_outcome whole s first ≡ applied_each leaves s first
  pub good : (carriers limit : ℕ) (known : List Needle) → AreGoodFor carriers limit known leaves → IsGood carriers limit known whole
  pub stands : (profile : Profile) (blocks : List (List Read)) → EachStandsFor profile leaves blocks → StandsFor profile whole (all_lines blocks)

-- how many new loops stand on needles at the end
abbrev pub new_loops : Summary → ℕ
new_loops summary = sum_by (λ (c : Changed). new_of c.1) summary.changes

-- The face at the root of a tree with these leaves: that of all of them, good for what they are good for, whichever needles that
-- is, with no more items than a good one can have and fewer new loops than 32 bits count.
pub record IsRootOf (leaves : List Leaf) (view : FaceView) : Type 0 where
  pub whole : IsWholeOf leaves (summary_of view)
  pub good : (carriers limit : ℕ) → All (λ (leaf : Leaf). IsGoodFor carriers limit leaf.0) leaves → IsGoodFor carriers limit (summary_of view)
  pub bound : (carriers limit : ℕ) (known : List Needle) → AreGoodFor carriers limit known leaves → items (summary_of view) ≤ most_items carriers limit (length known)
  pub packed : IsPacked view
  pub few : new_loops (summary_of view) < 2 ^ 32

-- the same of a leaf in the place of a summary
abbrev pub WholeLeaf : List Leaf → Leaf → Type 0
WholeLeaf leaves leaf = IsWholeOf leaves leaf.0

-- two leaves as one, without its loops
abbrev pub joined_leaf : Leaf → Leaf → Leaf
joined_leaf a b = (composed a.0 b.0, [])

-- two leaves that can be composed
pub record LeavesFit (a b : Leaf) : Type 0 where
  pub carriers : ℕ
  pub limit : ℕ
  pub known : List Needle
  pub few_carriers : carriers ≤ 64
  pub few_loops : limit < 2 ^ 8
  pub numbered : All IsNumbered known
  pub first : IsGood carriers limit known a.0
  pub second : IsGood carriers limit known b.0
  pub lines : a.0.lines + b.0.lines < 2 ^ 32

-- what composing costs of it
abbrev pub leaf_items : Leaf → ℕ
leaf_items leaf = items leaf.0

-- the room that it takes
abbrev pub leaf_room : Leaf → Room
leaf_room leaf = kept_room leaf.0

-- the lines that it has
abbrev pub leaf_lines : Leaf → ℕ
leaf_lines leaf = leaf.0.lines

-- the place of the leaf with a body line, from 0, and the line's offset in it
abbrev pub place_of_line : List Leaf → ℕ → Option (ℕ × ℕ)
place_of_line leaves offset = found_in leaf_lines leaves offset
