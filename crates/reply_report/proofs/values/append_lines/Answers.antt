use Rattle.std.proofs.Common.{true, codes}
use Rattle.std.proofs.lemmas.Result.{on_ok_weaker}
use Rattle.serde_json.specs.Written.{compact_text}
use Rattle.serde_json.specs.Data.{string}
use Rattle.verdict_report.specs.VerdictJson.{list_value}
use Rattle.reply_report.proofs.JsonMembers.{member-written}
use Rattle.reply_report.proofs.values.append_lines.Goals as goal

pub returns : goal.returns
returns c =
    on_ok_weaker c.append_line_list.result
    (λ written. member-written true (codes "lines") (compact_text (list_value string c.args.lines.now)) c.args.out.now.items c.append_key.new.out.items c.append_line_list.new.out.items c.in_ok-append_key.ensures written) c.append_line_list.ensures
