use Rattle.std.proofs.Common.{codes}
use Rattle.std.proofs.lemmas.Result.{on_ok_weaker}
use Rattle.serde_json.specs.Written.{compact_text}
use Rattle.reply_report.specs.TalkJson.{brief_value}
use Rattle.reply_report.proofs.JsonMembers.{member-written}
use Rattle.reply_report.proofs.values.append_brief_member.Goals as goal

pub returns : goal.returns
returns c =
    on_ok_weaker c.append_brief.result
    (λ written. member-written c.args.later (codes "brief") (compact_text (brief_value c.args.brief)) c.args.out.now.items c.append_key.new.out.items c.append_brief.new.out.items c.in_ok-append_key.ensures written) c.append_brief.ensures
