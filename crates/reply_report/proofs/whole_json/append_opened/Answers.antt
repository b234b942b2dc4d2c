use Rattle.std.proofs.Common.{◌∙◌, codes}
use Rattle.std.proofs.lemmas.Result.{on_ok_weaker}
use Rattle.serde_json.specs.Data.{Members, member}
use Rattle.reply_report.specs.TalkJson.{brief_value, broken_member, reply_member, version_member}
use Rattle.reply_report.proofs.whole_json.append_opened.Goals as goal

pub returns : goal.returns
returns c =
    let r4 : Members = version_member c.args.version in
    let r3 : Members = reply_member (codes "opened") (r4) in
    let r2 : Members = broken_member c.args.broken (r3) in
    let r1 : Members = member (codes "brief") (brief_value c.args.brief) (r2) in
    on_ok_weaker c.append_version.result (λ told. told ∙ (c.in_ok-append_word.ensures r4 ∙ (c.in_ok-append_broken_member.ensures r3 ∙ (c.in_ok-append_brief_member.ensures r2 ∙ (c.in_ok-append_count.ensures r1))))) c.append_version.ensures
