use Rattle.std.proofs.Common.{◌∙◌, codes}
use Rattle.std.proofs.lemmas.Result.{on_ok_weaker}
use Rattle.serde_json.specs.Data.{Members, no_members}
use Rattle.reply_report.specs.TalkJson.{frame_members}
use Rattle.reply_report.proofs.replies_json.append_block_long.Goals as goal

pub returns : goal.returns
returns c =
    let r2 : Members = no_members in
    let r1 : Members = frame_members c.args.frame (codes "blocklong") (r2) in
    on_ok_weaker c.close.result (λ told. told ∙ (c.in_ok-append_frame.ensures r2 ∙ (c.in_ok-append_count.ensures r1))) c.close.ensures
