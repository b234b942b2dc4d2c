use Rattle.std.proofs.Common.{◌++◌, arith, false, map}
use Rattle.serde_json.specs.View.{items_of}
use Rattle.serde_json.specs.Written.{items_text}
use Rattle.edit_book.specs.Books.{document}
use Rattle.edit_book.specs.Listing.{block_places}
use Rattle.reply_report.specs.TalkJson.{listed_value}
use Rattle.reply_report.proofs.JsonMembers.{items-all}
use Rattle.reply_report.proofs.Listings.{places-long}
use Rattle.reply_report.proofs.questions_json.append_block_items.Goals as goal

pub append_block_at-requires : goal.append_block_at-requires
append_block_at-requires c = omega (arith, places-long c.args.book.now.opening.setting.first (document c.args.book.now).blocks, c.block_count-at-end.ensures, c.each-test.true)

pub returns : goal.returns
returns c =
    items-all listed_value (block_places c.args.book.now.opening (document c.args.book.now)) c.each.at c.each.later c.each.out.items
    (c.args.out.now.items ++ items_text false (items_of (map listed_value (block_places c.args.book.now.opening (document c.args.book.now)))))
    (omega (arith, places-long c.args.book.now.opening.setting.first (document c.args.book.now).blocks, c.block_count-at-end.ensures, c.each-test.false)) c.each.invariant
