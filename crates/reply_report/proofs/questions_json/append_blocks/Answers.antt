use Rattle.std.proofs.Common.{false, codes}
use Rattle.std.proofs.lemmas.Result.{on_ok_weaker}
use Rattle.serde_json.specs.Written.{compact_text}
use Rattle.edit_book.specs.Books.{document}
use Rattle.edit_book.specs.Listing.{block_places}
use Rattle.verdict_report.specs.VerdictJson.{list_value}
use Rattle.reply_report.specs.TalkJson.{listed_value}
use Rattle.reply_report.proofs.JsonMembers.{member-written}
use Rattle.reply_report.proofs.questions_json.append_blocks.Goals as goal

pub returns : goal.returns
returns c =
    on_ok_weaker c.append_block_list.result
    (λ written. member-written false (codes "blocks") (compact_text (list_value listed_value (block_places c.args.book.now.opening (document c.args.book.now)))) c.args.out.now.items c.append_key.new.out.items c.append_block_list.new.out.items c.in_ok-append_key.ensures written) c.append_block_list.ensures
