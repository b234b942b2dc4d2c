use Rattle.std.proofs.Common.{◌∙◌, codes}
use Rattle.std.proofs.lemmas.Result.{on_ok_weaker}
use Rattle.serde_json.specs.Data.{Members, member, string}
use Rattle.reply_report.specs.TalkJson.{count_member, seen_members}
use Rattle.reply_report.proofs.since_json.append_put.Goals as goal

pub returns : goal.returns
returns c =
    let r3 : Members = seen_members c.args.number c.args.seen c.args.session in
    let r2 : Members = count_member (codes "lines") c.args.lines (r3) in
    let r1 : Members = member (codes "edit") (string (codes "put")) (r2) in
    on_ok_weaker c.append_seen.result (λ told. told ∙ (c.in_ok-append_count-2.ensures r3 ∙ (c.in_ok-append_word.ensures r2 ∙ (c.in_ok-append_count.ensures r1)))) c.append_seen.ensures
