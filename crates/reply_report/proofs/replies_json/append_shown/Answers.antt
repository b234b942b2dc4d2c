use Rattle.std.proofs.Common.{◌∙◌, codes}
use Rattle.std.proofs.lemmas.Result.{on_ok_weaker}
use Rattle.serde_json.specs.Data.{Members}
use Rattle.reply_report.specs.TalkJson.{count_member, frame_members, texts_member, version_member}
use Rattle.reply_report.proofs.replies_json.append_shown.Goals as goal

pub returns : goal.returns
returns c =
    let r5 : Members = version_member c.args.version in
    let r4 : Members = count_member (codes "stamp") c.args.stamp (r5) in
    let r3 : Members = frame_members c.args.frame (codes "shown") (r4) in
    let r2 : Members = texts_member c.args.lines.now (r3) in
    let r1 : Members = count_member (codes "first") c.args.first (r2) in
    on_ok_weaker c.append_version.result (λ told. told ∙ (c.in_ok-append_count-2.ensures r5 ∙ (c.in_ok-append_frame.ensures r4 ∙ (c.in_ok-append_lines.ensures r3 ∙ (c.in_ok-append_count.ensures r2 ∙ (c.in_ok-append_block.ensures r1)))))) c.append_version.ensures
