-- What is kept of the first blocks. No public contract speaks of it.
use Rattle.std.specs.Prelude.{◌≡◌, ℕ, List, [], ◌∷◌, ◌++◌, map}
use Rattle.block_summary.specs.declared.prepared.Prepared.{Prepared}
use Rattle.summary_tree.specs.Leaves.{Leaf}
use Rattle.edit_book.specs.declared.start.StartedBlocks.{StartedBlocks}

abbrev pub prepared_texts : List Prepared → List (List (List ℕ))
prepared_texts blocks = map (λ (block : Prepared). block.text) blocks

abbrev pub leaves_of : List Prepared → List Leaf
leaves_of blocks = map (λ (block : Prepared). let leaf : Leaf = (block.face, block.loops) in leaf) blocks

-- their texts and their leaves
pub record HasKept (blocks : List Prepared) (kept : StartedBlocks) : Type 0 where
  pub texts : kept.texts ≡ prepared_texts blocks
  pub leaves : kept.leaves.items ≡ leaves_of blocks

-- one block more
pub record IsBlockAdded (old new : StartedBlocks) (block : Prepared) : Type 0 where
  pub texts : new.texts ≡ old.texts ++ block.text ∷ []
  pub leaves : new.leaves.items ≡ old.leaves.items ++ (block.face, block.loops) ∷ []
