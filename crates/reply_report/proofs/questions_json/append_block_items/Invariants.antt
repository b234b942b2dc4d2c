use Rattle.std.proofs.Common.{◌≡◌, ◌++◌, false, drop, map}
use Rattle.serde_json.specs.View.{items_of}
use Rattle.serde_json.specs.Written.{items_text}
use Rattle.edit_book.specs.Books.{document}
use Rattle.edit_book.specs.Listing.{block_places}
use Rattle.reply_report.specs.TalkJson.{listed_value}
use Rattle.reply_report.proofs.questions_json.append_block_items.Given as goal

abbrev pub invariant-each : goal.invariant-each
invariant-each l = l.out.items ++ items_text l.later (items_of (map listed_value (drop l.at (block_places l.book.opening (document l.book))))) ≡ l.fn.out.items ++ items_text false (items_of (map listed_value (block_places l.book.opening (document l.book))))
