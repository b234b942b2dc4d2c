use Rattle.std.proofs.Common.{◌≡◌, length, map, take}
use Rattle.edit_journal.specs.Documents.{Block}
use Rattle.edit_book.specs.Outlines.{outline_document}
use Rattle.edit_book.proofs.outline.Outline.texts.Given as goal

abbrev pub invariant-loop-at : goal.invariant-loop-at
invariant-loop-at l = record {
  all : l.at-end ≡ length (outline_document l.self).blocks;
  taken : l.texts.items ≡ take l.at (map (λ (b : Block). b.lines) (outline_document l.self).blocks);
}
