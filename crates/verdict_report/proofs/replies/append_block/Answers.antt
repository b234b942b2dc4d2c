use Rattle.std.proofs.Common.{rules, ◌++◌, ◌∙◌, ap, sym}
use Rattle.verdict_report.specs.LiveText.{block_text}
use Rattle.verdict_report.proofs.replies.append_block.Goals as goal

pub returns-then-block-eq-HEAD : goal.returns-then-block-eq-HEAD
unfolding block_text
returns-then-block-eq-HEAD c = c.in_ok-extend_from_slice.ensures.items ∙ sym (ap (λ b. c.args.out.now.items ++ block_text b) c.if-block-eq-HEAD.true)

pub returns : goal.returns
unfolding block_text
returns c = search rules
