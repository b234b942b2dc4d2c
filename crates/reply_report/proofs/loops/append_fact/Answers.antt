use Rattle.std.proofs.Common.{false, codes}
use Rattle.std.proofs.lemmas.Result.{on_ok_weaker}
use Rattle.serde_json.specs.Written.{compact_text}
use Rattle.reply_report.specs.TalkJson.{fact_value}
use Rattle.reply_report.proofs.JsonMembers.{member-written}
use Rattle.reply_report.proofs.loops.append_fact.Goals as goal

pub returns : goal.returns
returns c =
    on_ok_weaker c.append_fact_value.result
    (λ written. member-written false (codes "loop") (compact_text (fact_value c.args.declared.now c.args.fact.now)) c.args.out.now.items c.append_key.new.out.items c.append_fact_value.new.out.items c.in_ok-append_key.ensures written) c.append_fact_value.ensures
