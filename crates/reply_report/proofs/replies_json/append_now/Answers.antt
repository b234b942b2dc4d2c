use Rattle.std.proofs.Common.{◌∙◌, ◌++◌, ap, codes}
use Rattle.std.proofs.lemmas.Result.{on_ok_weaker}
use Rattle.std.proofs.Common.{None}
use Rattle.verdict_report.specs.VerdictJson.{verdict_value}
use Rattle.serde_json.specs.Data.{Members, member}
use Rattle.reply_report.specs.TalkJson.{frame_members, version_member}
use Rattle.serde_json.specs.Written.{members_text}
use Rattle.reply_report.proofs.replies_json.append_now.Goals as goal

pub returns : goal.returns
returns c =
    let r3 : Members = version_member c.args.version in
    let r2 : Members = member (codes "verdict") (verdict_value c.args.declared.now c.args.line.now c.args.verdict.now None) (r3) in
    let r1 : Members = frame_members c.args.frame (codes "verdict") (r2) in
    on_ok_weaker c.append_version.result (λ told. told ∙ (c.in_ok-append_verdict_member.ensures r3 ∙ (c.in_ok-append_frame.ensures r2 ∙ ap (λ b. c.append_broken_first.new.out.items ++ members_text b (frame_members c.args.frame (codes "verdict") (r2))) (c.is_some.ensures) ∙ (c.in_ok-append_broken_first.ensures r1)))) c.append_version.ensures
