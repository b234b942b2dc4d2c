use Rattle.std.proofs.Common.{◌≡◌, ◌++◌, drop, flat_map}
use Rattle.edit_book.specs.Books.{document}
use Rattle.edit_book.specs.Listing.{block_places}
use Rattle.reply_report.specs.TalkText.{block_line}
use Rattle.reply_report.proofs.blocks.append_blocks.Given as goal

abbrev pub invariant-each : goal.invariant-each
invariant-each l =
    l.out.items ++ flat_map block_line (drop l.at (block_places l.book.opening (document l.book))) ≡ l.fn.out.items ++ flat_map block_line (block_places l.book.opening (document l.book))
