use Rattle.std.proofs.Common.{◌∙◌, codes}
use Rattle.std.proofs.lemmas.Result.{on_ok_weaker}
use Rattle.serde_json.specs.Data.{Members}
use Rattle.reply_report.specs.TalkJson.{count_member, number_member, reply_member, session_member, version_member}
use Rattle.reply_report.proofs.replies_json.append_stale.Goals as goal

pub returns : goal.returns
returns c =
    let r6 : Members = version_member c.args.version in
    let r5 : Members = session_member c.args.frame (r6) in
    let r4 : Members = count_member (codes "seen") c.args.seen (r5) in
    let r3 : Members = reply_member (codes "stale") (r4) in
    let r2 : Members = number_member c.args.frame (r3) in
    let r1 : Members = count_member (codes "now") c.args.now (r2) in
    on_ok_weaker c.append_version.result (λ told. told ∙ (c.in_ok-append_session_of.ensures r6 ∙ (c.in_ok-append_count-2.ensures r5 ∙ (c.in_ok-append_word.ensures r4 ∙ (c.in_ok-append_number_of.ensures r3 ∙ (c.in_ok-append_count.ensures r2 ∙ (c.in_ok-append_block.ensures r1))))))) c.append_version.ensures
