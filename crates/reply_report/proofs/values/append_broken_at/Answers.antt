use Rattle.std.proofs.Common.{codes}
use Rattle.std.proofs.lemmas.Result.{on_ok_weaker}
use Rattle.serde_json.specs.Written.{compact_text}
use Rattle.reply_report.specs.TalkJson.{place_value}
use Rattle.reply_report.proofs.JsonMembers.{member-written}
use Rattle.reply_report.proofs.values.append_broken_at.Goals as goal

pub returns : goal.returns
returns c =
    on_ok_weaker c.append_place.result
    (λ written. member-written c.args.later (codes "broken") (compact_text (place_value c.args.place)) c.args.out.now.items c.append_key.new.out.items c.append_place.new.out.items c.in_ok-append_key.ensures written) c.append_place.ensures
