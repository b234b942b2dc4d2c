-- The tree of the tallies of a document's blocks.
use Rattle.std.specs.Prelude.{◌≡◌, ℕ, List, Option, Some}
use Rattle.knit_base.specs.declared.setting.Setting.{Setting}
use Rattle.edit_book.specs.Books.{AreBlockwise, IsLawfulOutline}
use Rattle.tree_shape.specs.Values.{leaf_values}
use Rattle.tree_shape.specs.View.{ShapeView}
use Rattle.value_tree.specs.Kept.{KeepsLeafValues}
use Rattle.tally_tree.specs.declared.tally.Tally.{Tally}
use Rattle.tally_tree.specs.Docs.{DocView, document}
use Rattle.tally_tree.specs.Leaves.{AreLeaves, IsOnBeds, tallies_place_count, tally_at}
use Rattle.tally_tree.specs.Tallies.{TallyCounts, IsLineTally, counts_of_tally, joined_counts}

-- the tally is what these lines come to, read by the setting
abbrev pub IsTallyIn : Setting → TallyCounts → List (List ℕ) → Type 0
IsTallyIn setting v lines = IsLineTally setting.profile setting.declared lines v

-- a leaf of such a tally, which may stand in a tree
pub record IsLeafIn (setting : Setting) (v : TallyCounts) (lines : List (List ℕ)) : Type 0 where
  pub tally : IsTallyIn setting v lines
  pub on_beds : IsOnBeds v

-- the tallies at the leaves, in their order
abbrev pub leaf_tallies : ShapeView → List (Option Tally) → List TallyCounts
leaf_tallies shape leaves = leaf_values (tally_at leaves) shape.tree

-- always so of a tree of tallies: what stands at its inner nodes is joined of its leaves
abbrev pub IsTallyTree : ShapeView → List (Option Tally) → List (Option Tally) → Type 0
IsTallyTree shape leaves nodes = KeepsLeafValues joined_counts AreLeaves (tally_at leaves) (tally_at nodes) (tallies_place_count leaves nodes) shape

-- it is that of the document, which keeps the limits: each leaf is what the lines of the block at its place come to
pub record IsTreeOf (doc : DocView) (shape : ShapeView) (leaves nodes : List (Option Tally)) : Type 0 where
  pub lawful : IsLawfulOutline doc.opening doc.entries
  pub kept : IsTallyTree shape leaves nodes
  pub tallies : AreBlockwise IsTallyIn doc.opening (document doc) (leaf_tallies shape leaves)

-- the slot has the leaf of these lines
abbrev pub HasLeaf : Setting → Option Tally → List (List ℕ) → Type 0
HasLeaf setting slot lines = (tally : Tally) × (slot ≡ Some tally) × IsLeafIn setting (counts_of_tally tally) lines
