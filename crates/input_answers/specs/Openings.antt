-- A text that is cut into blocks, one after the other. No public contract speaks of it.
use Rattle.std.specs.Prelude.{◌≡◌, ℕ, ◌<◌, ◌≤◌, List, [], ◌∷◌, length, map, slice_range}
use Rattle.std.specs.List.{flat_map}
use Rattle.block_summary.specs.declared.prepared.Prepared.{Prepared}
use Rattle.input_answers.specs.DueLive.{AreOpeningBlocks}

abbrev pub texts_of : List Prepared → List (List (List ℕ))
texts_of blocks = map (λ (block : Prepared). block.text) blocks

-- each block has so many lines
abbrev pub AreFull : ℕ → List (List (List ℕ)) → Type 0
AreFull size [] = Unit {0}
AreFull size (block ∷ blocks) = (length block ≡ size) × AreFull size blocks

-- the texts have the lines from the one place to the other, which isn't counted, and the last text alone may be short, where no line is left
pub record IsCut (size : ℕ) (text : List (List ℕ)) (from to : ℕ) (texts : List (List (List ℕ))) : Type 0 where
  pub ordered : from ≤ to
  pub inside : to ≤ length text
  pub lines : flat_map (λ (lines : List (List ℕ)). lines) texts ≡ slice_range text from to
  pub sizes : AreOpeningBlocks size texts
  pub full : to < length text → AreFull size texts
