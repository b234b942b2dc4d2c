use Rattle.std.proofs.Common.{◌∙◌, ◌++◌, true, codes, ap, refl}
use Rattle.std.proofs.lemmas.Result.{on_ok_weaker}
use Rattle.serde_json.specs.Written.{compact_text}
use Rattle.verdict_report.specs.VerdictJson.{count_value, list_value}
use Rattle.std.proofs.Common.{decimal}
use Rattle.reply_report.proofs.JsonMembers.{list-is, member-written}
use Rattle.reply_report.proofs.loops.append_through.Goals as goal

pub returns : goal.returns
returns c =
    on_ok_weaker c.append_numbers.result
    (λ written. member-written true (codes "through") (compact_text (list_value count_value c.args.lines.now)) c.args.out.now.items c.append_key.new.out.items c.append_numbers.new.out.items c.in_ok-append_key.ensures
    (written ∙ ap (λ t. c.append_key.new.out.items ++ t) (list-is decimal count_value (λ x. refl) c.args.lines.now))) c.append_numbers.ensures
