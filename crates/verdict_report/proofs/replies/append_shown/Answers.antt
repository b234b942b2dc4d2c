use Rattle.std.proofs.Common.{rules, codes, ◌≡◌, ◌++◌, length, flat_map}
use Rattle.std.proofs.lemmas.Result.{on_ok_weaker}
use Rattle.verdict_report.specs.LiveText.{at_block, barred_line}
use Rattle.knit_base.specs.Spelling.{labelled_number}
use Rattle.knit_base.proofs.Chain.{after_three}
use Rattle.verdict_report.proofs.replies.append_shown.Goals as goal

pub returns : goal.returns
returns c =
    let stamp : c.append_labelled.new.out.items ≡ c.append_at_block.new.out.items ++ labelled_number (codes " stamp ") c.args.stamp = search rules in
    on_ok_weaker c.append_lines.result
    (after_three c.args.out.now.items c.append_at_block.new.out.items c.append_labelled.new.out.items c.append_lines.new.out.items
    (at_block (codes "shown version ") c.args.version c.args.block) (labelled_number (codes " stamp ") c.args.stamp)
    (labelled_number (codes " first ") c.args.first ++ (labelled_number (codes " lines ") (length c.args.lines.now) ++ (codes "\n" ++ flat_map barred_line c.args.lines.now)))
    c.in_ok-append_at_block.ensures stamp) c.append_lines.ensures
