use Rattle.std.proofs.Common.{◌∙◌}
use Rattle.std.proofs.lemmas.Result.{on_ok_weaker}
use Rattle.serde_json.specs.Data.{Members, no_members}
use Rattle.reply_report.proofs.members.append_version.Goals as goal

pub returns : goal.returns
returns c =
    let r1 : Members = no_members in
    on_ok_weaker c.close.result (λ told. told ∙ (c.in_ok-append_count.ensures r1)) c.close.ensures
