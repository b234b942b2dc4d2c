use Rattle.std.proofs.Common.{◌≡◌, take}
use Rattle.edit_book.specs.Outlines.{block_texts_of}
use Rattle.edit_book.proofs.open.block_texts.Given as goal

abbrev pub invariant-loop-block : goal.invariant-loop-block
invariant-loop-block l = l.texts ≡ block_texts_of (take l.block-index l.block-items)
