use Rattle.std.proofs.Common.{◌∙◌, ◌++◌, codes, flat_map, length}
use Rattle.std.proofs.lemmas.Result.{on_ok_weaker}
use Rattle.edit_book.specs.Books.{document}
use Rattle.edit_book.specs.Listing.{block_places}
use Rattle.knit_base.proofs.Chain.{after_two}
use Rattle.reply_report.specs.TalkText.{block_line, two_counts}
use Rattle.reply_report.proofs.blocks.append_listing.Goals as goal

pub returns : goal.returns
returns c =
    on_ok_weaker c.append_blocks.result
    (after_two c.args.out.now.items c.append_two_counts.new.out.items c.append_blocks.new.out.items
    (two_counts (codes "blocks version ") (length c.args.book.now.entries) (codes " blocks ") (length (document c.args.book.now).blocks))
    (flat_map block_line (block_places c.args.book.now.opening (document c.args.book.now)))
    (c.in_ok-append_two_counts.ensures ∙ (λ i. c.args.out.now.items ++ two_counts (codes "blocks version ") ((c.from-version.ensures ∙ c.version.ensures.version) i) (codes " blocks ") ((c.from-count.ensures ∙ c.block_count.ensures) i))))
    c.append_blocks.ensures
