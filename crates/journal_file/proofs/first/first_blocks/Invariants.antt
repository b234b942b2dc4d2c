use Rattle.std.proofs.Common.{◌-◌, ℕ, length}
use Rattle.journal_file.proofs.FirstBlocks.{AreFirst}
use Rattle.journal_file.proofs.first.first_blocks.Given as goal

abbrev pub invariant-loop-text : goal.invariant-loop-text
invariant-loop-text l = AreFirst l.book.opening.texts l.blocks

abbrev pub decreases-loop-text : goal.decreases-loop-text
decreases-loop-text l = length l.book.opening.texts - length l.blocks
