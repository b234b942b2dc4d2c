use Rattle.std.proofs.Common.{◌∙◌, ◌++◌, true, codes, ap, refl}
use Rattle.std.proofs.lemmas.Result.{on_ok_weaker}
use Rattle.serde_json.specs.Written.{compact_text}
use Rattle.verdict_report.specs.VerdictJson.{list_value, name_value}
use Rattle.reply_report.specs.TalkJson.{carrier_string}
use Rattle.reply_report.proofs.JsonMembers.{list-is, member-written}
use Rattle.reply_report.proofs.loops.append_yarns.Goals as goal

pub returns : goal.returns
returns c =
    on_ok_weaker c.append_names.result
    (λ written. member-written true (codes "yarns") (compact_text (list_value (name_value c.args.declared.now) c.args.yarns.now)) c.args.out.now.items c.append_key.new.out.items c.append_names.new.out.items c.in_ok-append_key.ensures
    (written ∙ ap (λ t. c.append_key.new.out.items ++ t) (list-is (carrier_string c.args.declared.now) (name_value c.args.declared.now) (λ x. refl) c.args.yarns.now))) c.append_names.ensures
