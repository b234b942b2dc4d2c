use Rattle.std.proofs.Common.{◌∙◌, ◌++◌, true, codes, ap, refl}
use Rattle.std.proofs.lemmas.Result.{on_ok_weaker}
use Rattle.serde_json.specs.Written.{compact_text}
use Rattle.verdict_report.specs.VerdictJson.{list_value}
use Rattle.reply_report.specs.TallyJson.{needle_string, needle_value}
use Rattle.reply_report.proofs.JsonMembers.{list-is, member-written}
use Rattle.reply_report.proofs.tally_json.append_needles.Goals as goal

pub returns : goal.returns
returns c =
    on_ok_weaker c.append_needle_list.result
    (λ written. member-written true (codes "needles") (compact_text (list_value needle_value c.args.needles.now)) c.args.out.now.items c.append_key.new.out.items c.append_needle_list.new.out.items c.in_ok-append_key.ensures
    (written ∙ ap (λ t. c.append_key.new.out.items ++ t) (list-is needle_string needle_value (λ n. refl) c.args.needles.now))) c.append_needle_list.ensures
