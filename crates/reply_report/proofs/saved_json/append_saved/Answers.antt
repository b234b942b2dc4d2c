use Rattle.std.proofs.Common.{◌∙◌, Some, codes}
use Rattle.std.proofs.lemmas.Result.{on_ok_weaker}
use Rattle.serde_json.specs.Data.{Members}
use Rattle.reply_report.specs.TalkJson.{frame_members, version_member}
use Rattle.reply_report.proofs.saved_json.append_saved.Goals as goal

pub returns : goal.returns
returns c =
    let r2 : Members = version_member c.args.version in
    let r1 : Members = frame_members (Some c.args.frame) (codes "saved") r2 in
    on_ok_weaker c.append_version.result (λ told. told ∙ (c.in_ok-append_frame.ensures r2 ∙ c.in_ok-append_lines.ensures r1)) c.append_version.ensures
