use Rattle.std.proofs.Common.{◌++◌, arith, flat_map}
use Rattle.edit_book.specs.Books.{document}
use Rattle.edit_book.specs.Listing.{block_places}
use Rattle.knit_base.proofs.Rests.{written-all}
use Rattle.reply_report.specs.TalkText.{block_line}
use Rattle.reply_report.proofs.Listings.{places-long}
use Rattle.reply_report.proofs.blocks.append_blocks.Goals as goal

pub returns : goal.returns
returns c =
    written-all block_line (block_places c.args.book.now.opening (document c.args.book.now)) c.each.at
    (c.args.out.now.items ++ flat_map block_line (block_places c.args.book.now.opening (document c.args.book.now))) c.each.out.items
    (omega (arith, places-long c.args.book.now.opening.setting.first (document c.args.book.now).blocks, c.block_count-at-end.ensures, c.each-test.false)) c.each.invariant
