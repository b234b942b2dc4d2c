use Rattle.std.proofs.lemmas.Result.{on_ok_weaker}
use Rattle.serde_json.specs.Data.{string}
use Rattle.reply_report.proofs.JsonMembers.{item-written}
use Rattle.reply_report.proofs.values.append_text_item.Goals as goal

pub returns : goal.returns
returns g c =
    on_ok_weaker c.append_string.result
    (λ written. item-written string c.args.text.now c.args.at _ c.args.later c.args.out.now.items c.append_comma.new.out.items c.append_string.new.out.items (c.line.ensures.line) c.in_ok-append_comma.ensures (written)) c.append_string.ensures
