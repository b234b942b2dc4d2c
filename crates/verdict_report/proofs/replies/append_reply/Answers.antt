use Rattle.std.proofs.Common.{◌∙◌, ◌++◌, ap, sym}
use Rattle.std.proofs.lemmas.Result.{on_ok_weaker}
use Rattle.verdict_report.specs.LiveText.{reply_text}
use Rattle.verdict_report.proofs.replies.append_reply.Goals as goal

pub returns-in-NoBlock : goal.returns-in-NoBlock
returns-in-NoBlock c =
    on_ok_weaker c.append_numbered_block-in-NoBlock.result
    (λ told. told ∙ ap (λ r. c.args.out.now.items ++ reply_text c.args.declared.now r) (sym c.in-NoBlock.is)) c.append_numbered_block-in-NoBlock.ensures
