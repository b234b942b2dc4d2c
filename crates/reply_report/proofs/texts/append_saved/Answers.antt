use Rattle.std.proofs.Common.{◌∙◌, ◌++◌, codes, count_by}
use Rattle.knit_base.specs.Lines.{is_line_feed}
use Rattle.knit_base.proofs.Chain.{after_two}
use Rattle.reply_report.specs.TalkText.{two_counts}
use Rattle.reply_report.proofs.texts.append_saved.Goals as goal

pub returns : goal.returns
returns c =
    after_two c.args.out.now.items c.append_two_counts.new.out.items c.extend_from_slice.new.self.items
    (two_counts (codes "saved version ") c.args.version (codes " lines ") (count_by is_line_feed c.args.saved.now)) c.args.saved.now
    (c.in_ok-append_two_counts.ensures ∙ (λ i. c.args.out.now.items ++ two_counts (codes "saved version ") (c.from.ensures i) (codes " lines ") (c.lines_in.ensures i))) c.in_ok-extend_from_slice.ensures.items
