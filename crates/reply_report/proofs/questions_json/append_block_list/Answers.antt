use Rattle.std.proofs.Common.{map}
use Rattle.serde_json.specs.View.{items_of}
use Rattle.edit_book.specs.Books.{document}
use Rattle.edit_book.specs.Listing.{block_places}
use Rattle.reply_report.specs.TalkJson.{listed_value}
use Rattle.reply_report.proofs.JsonMembers.{list-written}
use Rattle.reply_report.proofs.questions_json.append_block_list.Goals as goal

pub returns : goal.returns
returns c =
    list-written c.args.out.now.items c.extend_from_slice.new.self.items c.append_block_items.new.out.items c.extend_from_slice-2.new.self.items (items_of (map listed_value (block_places c.args.book.now.opening (document c.args.book.now))))
    c.in_ok-extend_from_slice.ensures.items c.in_ok-append_block_items.ensures c.in_ok-extend_from_slice-2.ensures.items
