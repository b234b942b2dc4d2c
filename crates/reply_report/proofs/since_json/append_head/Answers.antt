use Rattle.std.proofs.Common.{◌∙◌, codes}
use Rattle.std.proofs.lemmas.Result.{on_ok_weaker}
use Rattle.verdict_report.specs.VerdictJson.{list_value}
use Rattle.serde_json.specs.Data.{Members, member, string}
use Rattle.reply_report.specs.TalkJson.{seen_members}
use Rattle.reply_report.proofs.since_json.append_head.Goals as goal

pub returns : goal.returns
returns c =
    let r2 : Members = seen_members c.args.number c.args.seen c.args.session in
    let r1 : Members = member (codes "names") (list_value string c.args.declared.now) (r2) in
    on_ok_weaker c.append_seen.result (λ told. told ∙ (c.in_ok-append_names.ensures r2 ∙ (c.in_ok-append_word.ensures r1))) c.append_seen.ensures
