use Rattle.std.proofs.Common.{◌∙◌, codes}
use Rattle.std.proofs.lemmas.Result.{on_ok_weaker}
use Rattle.std.proofs.Common.{Some}
use Rattle.serde_json.specs.Data.{Members}
use Rattle.reply_report.specs.TalkJson.{count_member, frame_members, texts_member, version_member}
use Rattle.reply_report.proofs.questions_json.append_got.Goals as goal

pub returns : goal.returns
returns g c =
    let r4 : Members = version_member c.args.version in
    let r3 : Members = count_member (codes "stamp") c.args.stamp (r4) in
    let r2 : Members = frame_members (Some c.args.frame) (codes "text") (r3) in
    let r1 : Members = texts_member c.args.text.now (r2) in
    on_ok_weaker c.append_version.result (λ told. told ∙ (c.in_ok-append_count-2.ensures r4 ∙ (c.in_ok-append_frame.ensures r3 ∙ (c.in_ok-append_text.ensures r2 ∙ (c.in_ok-append_count.ensures r1))))) c.append_version.ensures
