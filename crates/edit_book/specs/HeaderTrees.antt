-- The tree under other names of the header: what is taken of the summaries that are handed over, and the leaves. No public contract speaks of it.
use Rattle.std.specs.Prelude.{◌≡◌, ℕ, ◌+◌, true, false, List, [], ◌∷◌, Option, Some, None, length}
use Rattle.std.specs.List.{AllZip, Contains}
use Rattle.knit_base.specs.declared.setting.Setting.{Setting}
use Rattle.edit_journal.specs.Documents.{Block}
use Rattle.summary_tree.specs.Leaves.{Leaf}
use Rattle.edit_book.specs.declared.reply.Again.{Again}
use Rattle.edit_book.specs.Books.{IsLeafOf}
use Rattle.edit_book.specs.Work.{is_for, is_prepared_again}

-- the leaf is that of a summary for the block, which is one of these
pub record IsHandedOver (again : List Again) (b : Block) (leaf : Leaf) : Type 0 where
  pub one : Again
  pub among : Contains again one
  pub for_block : is_for b one ≡ true
  pub leaf_is : leaf ≡ (one.prepared.face, one.prepared.loops)

-- what is taken of these summaries for a block: the leaf of one that is for it, or nothing where none is
abbrev pub IsLeafTaken : List Again → Option Leaf → Block → Type 0
IsLeafTaken again None b = is_prepared_again again b ≡ false
IsLeafTaken again (Some leaf) b = IsHandedOver again b leaf

abbrev pub AreLeavesTaken : List Again → List (Option Leaf) → List Block → Type 0
AreLeavesTaken again taken blocks = AllZip (IsLeafTaken again) taken blocks

-- a leaf that was taken is made of the block's lines
abbrev pub FitsBlock : Setting → Option Leaf → Block → Type 0
FitsBlock setting None b = Unit {0}
FitsBlock setting (Some leaf) b = IsLeafOf setting leaf b.lines

abbrev pub FitBlocks : Setting → List (Option Leaf) → List Block → Type 0
FitBlocks setting taken blocks = AllZip (FitsBlock setting) taken blocks

-- each leaf is made of the lines of its block
abbrev pub AreLeavesOf : Setting → List Leaf → List Block → Type 0
AreLeavesOf setting leaves blocks = AllZip (λ (leaf : Leaf) (b : Block). IsLeafOf setting leaf b.lines) leaves blocks

-- how many lines are left to read of a block, if nothing was taken for it
abbrev pub lines_for : Option Leaf → Block → ℕ
lines_for None b = length b.lines
lines_for (Some leaf) b = 0

-- and of these blocks
abbrev pub lines_left : List (Option Leaf) → List Block → ℕ
lines_left [] blocks = 0
lines_left (t ∷ taken) [] = 0
lines_left (t ∷ taken) (b ∷ blocks) = lines_for t b + lines_left taken blocks
