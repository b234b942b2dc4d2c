use Rattle.std.proofs.Common.{◌∙◌, codes}
use Rattle.std.proofs.lemmas.Result.{on_ok_weaker}
use Rattle.std.proofs.Common.{Some}
use Rattle.serde_json.specs.Data.{Members}
use Rattle.reply_report.specs.TalkJson.{broken_member, count_member, frame_members, version_member}
use Rattle.reply_report.proofs.steps_json.append_done.Goals as goal

pub returns : goal.returns
returns c =
    let r4 : Members = version_member c.args.version in
    let r3 : Members = frame_members (Some c.args.frame) (codes "group") (r4) in
    let r2 : Members = count_member (codes "from") c.args.from (r3) in
    let r1 : Members = broken_member c.args.broken (r2) in
    on_ok_weaker c.append_version.result (λ told. told ∙ (c.in_ok-append_frame.ensures r4 ∙ (c.in_ok-append_count.ensures r3 ∙ (c.in_ok-append_broken_member.ensures r2 ∙ (c.in_ok-append_brief_member.ensures r1))))) c.append_version.ensures
