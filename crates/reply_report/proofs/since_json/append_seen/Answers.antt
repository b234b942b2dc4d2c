use Rattle.std.proofs.Common.{◌∙◌, codes}
use Rattle.std.proofs.lemmas.Result.{on_ok_weaker}
use Rattle.serde_json.specs.Data.{Members, no_members}
use Rattle.reply_report.specs.TalkJson.{count_member}
use Rattle.reply_report.proofs.since_json.append_seen.Goals as goal

pub returns : goal.returns
returns c =
    let r3 : Members = no_members in
    let r2 : Members = count_member (codes "session") c.args.session (r3) in
    let r1 : Members = count_member (codes "seen") c.args.seen (r2) in
    on_ok_weaker c.close.result (λ told. told ∙ (c.in_ok-append_count-3.ensures r3 ∙ (c.in_ok-append_count-2.ensures r2 ∙ (c.in_ok-append_count.ensures r1)))) c.close.ensures
