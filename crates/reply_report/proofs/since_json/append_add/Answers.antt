use Rattle.std.proofs.Common.{◌∙◌, codes}
use Rattle.std.proofs.lemmas.Result.{on_ok_weaker}
use Rattle.serde_json.specs.Data.{Members, member, no_members, string}
use Rattle.reply_report.specs.TalkJson.{count_member}
use Rattle.reply_report.proofs.since_json.append_add.Goals as goal

pub returns : goal.returns
returns c =
    let r6 : Members = no_members in
    let r5 : Members = count_member (codes "session") c.args.session (r6) in
    let r4 : Members = count_member (codes "number") c.args.number (r5) in
    let r3 : Members = count_member (codes "lines") c.args.lines (r4) in
    let r2 : Members = member (codes "edit") (string (codes "add")) (r3) in
    let r1 : Members = count_member (codes "block") c.args.block (r2) in
    on_ok_weaker c.close.result (λ told. told ∙ (c.in_ok-append_count-4.ensures r6 ∙ (c.in_ok-append_count-3.ensures r5 ∙ (c.in_ok-append_count-2.ensures r4 ∙ (c.in_ok-append_word.ensures r3 ∙ (c.in_ok-append_count.ensures r2 ∙ (c.in_ok-append_anchor.ensures r1))))))) c.close.ensures
