use Rattle.std.proofs.Common.{◌∙◌, sym}
use Rattle.std.proofs.lemmas.Result.{on_ok_weaker}
use Rattle.knit_base.proofs.Rests.{item-there}
use Rattle.edit_book.specs.Books.{document}
use Rattle.edit_book.specs.Listing.{block_places}
use Rattle.reply_report.specs.TalkJson.{listed_value}
use Rattle.reply_report.proofs.JsonMembers.{item-written}
use Rattle.reply_report.proofs.questions_json.append_block_at.Goals as goal

pub unreachable-requires : goal.unreachable-requires
unreachable-requires c = item-there (block_places c.args.book.now.opening (document c.args.book.now)) c.args.at c.requires (sym c.block_at.ensures ∙ c.in_default.is)

pub returns : goal.returns
returns c =
    on_ok_weaker c.append_block.result
    (λ written. item-written listed_value (block_places c.args.book.now.opening (document c.args.book.now)) c.args.at _ c.args.later c.args.out.now.items c.append_comma.new.out.items c.append_block.new.out.items (sym c.block_at.ensures ∙ c.in-Some.is) c.in_ok-append_comma.ensures (written)) c.append_block.ensures
