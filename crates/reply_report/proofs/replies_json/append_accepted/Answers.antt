use Rattle.std.proofs.Common.{◌∙◌, codes}
use Rattle.std.proofs.lemmas.Result.{on_ok_weaker}
use Rattle.serde_json.specs.Data.{Members, member}
use Rattle.reply_report.specs.TalkJson.{brief_value, broken_member, frame_members, version_member}
use Rattle.reply_report.proofs.replies_json.append_accepted.Goals as goal

pub returns : goal.returns
returns c =
    let r4 : Members = version_member c.args.version in
    let r3 : Members = frame_members c.args.frame (codes "accepted") (r4) in
    let r2 : Members = broken_member c.args.broken (r3) in
    let r1 : Members = member (codes "brief") (brief_value c.args.brief) (r2) in
    on_ok_weaker c.append_version.result (λ told. told ∙ (c.in_ok-append_frame.ensures r4 ∙ (c.in_ok-append_broken_member.ensures r3 ∙ (c.in_ok-append_brief_member.ensures r2 ∙ (c.in_ok-append_block.ensures r1))))) c.append_version.ensures
