use Rattle.std.proofs.Common.{false, codes}
use Rattle.std.proofs.lemmas.Result.{on_ok_weaker}
use Rattle.serde_json.specs.Written.{compact_text}
use Rattle.reply_report.specs.TalkJson.{anchor_value}
use Rattle.reply_report.proofs.JsonMembers.{member-written}
use Rattle.reply_report.proofs.since_json.append_anchor.Goals as goal

pub returns : goal.returns
returns c =
    on_ok_weaker c.append_anchor_value.result
    (λ written. member-written false (codes "anchor") (compact_text (anchor_value c.args.anchor)) c.args.out.now.items c.append_key.new.out.items c.append_anchor_value.new.out.items c.in_ok-append_key.ensures written) c.append_anchor_value.ensures
