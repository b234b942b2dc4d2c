use Rattle.std.proofs.Common.{◌∙◌, codes}
use Rattle.std.proofs.lemmas.Result.{on_ok_weaker}
use Rattle.serde_json.specs.Data.{Members}
use Rattle.reply_report.specs.TalkJson.{count_member, reply_member}
use Rattle.reply_report.proofs.members.append_whole_frame.Goals as goal

pub returns : goal.returns
returns c =
    on_ok_weaker c.append_count.result
    (λ told rest.
    let r2 : Members = count_member (codes "session") c.args.frame.session rest in
    told rest ∙ (c.in_ok-append_word.ensures r2 ∙ c.in_ok-append_wide.ensures (reply_member c.args.word.now r2))) c.append_count.ensures
