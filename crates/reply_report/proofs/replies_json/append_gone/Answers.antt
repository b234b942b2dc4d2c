use Rattle.std.proofs.Common.{◌∙◌, codes}
use Rattle.std.proofs.lemmas.Result.{on_ok_weaker}
use Rattle.serde_json.specs.Data.{Members}
use Rattle.reply_report.specs.TalkJson.{block_member, frame_members, version_member}
use Rattle.reply_report.proofs.replies_json.append_gone.Goals as goal

pub returns : goal.returns
returns c =
    let r3 : Members = version_member c.args.version in
    let r2 : Members = frame_members c.args.frame (codes "gone") (r3) in
    let r1 : Members = block_member c.args.block (r2) in
    on_ok_weaker c.append_version.result (λ told. told ∙ (c.in_ok-append_frame.ensures r3 ∙ (c.in_ok-append_block.ensures r2 ∙ (c.in_ok-append_count.ensures r1)))) c.append_version.ensures
