use Rattle.std.proofs.Common.{◌∙◌, sym}
use Rattle.std.proofs.lemmas.Result.{on_ok_weaker}
use Rattle.edit_book.specs.Books.{document}
use Rattle.edit_book.specs.Listing.{block_places}
use Rattle.knit_base.proofs.Rests.{written-none, written-one}
use Rattle.reply_report.specs.TalkText.{block_line}
use Rattle.reply_report.proofs.blocks.append_block_at.Goals as goal

pub returns-in-Some : goal.returns-in-Some
returns-in-Some c =
    on_ok_weaker c.append_block.result
    (λ written. written-one block_line (block_places c.args.book.now.opening (document c.args.book.now)) c.args.at _ _ _ (sym c.block_at.ensures ∙ c.in-Some.is) written) c.append_block.ensures

pub returns-in-None : goal.returns-in-None
returns-in-None c = written-none block_line (block_places c.args.book.now.opening (document c.args.book.now)) c.args.at _ (sym c.block_at.ensures ∙ c.in-None.is)
