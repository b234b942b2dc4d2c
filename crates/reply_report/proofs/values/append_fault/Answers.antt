use Rattle.std.proofs.Common.{◌∙◌, ◌++◌, ap, true, false, codes}
use Rattle.std.proofs.lemmas.Result.{on_ok_weaker}
use Rattle.knit_base.specs.Spelling.{rule_name}
use Rattle.serde_json.specs.Data.{Members, member, no_members, string}
use Rattle.reply_report.specs.TalkJson.{count_member}
use Rattle.serde_json.specs.Written.{members_text}
use Rattle.reply_report.proofs.JsonMembers.{object-written}
use Rattle.reply_report.proofs.values.append_fault.Goals as goal

pub returns : goal.returns
returns c =
    let r4 : Members = no_members in
    let r3 : Members = member (codes "verdict") (string (codes "broken")) (r4) in
    let r2 : Members = member (codes "rule") (string (rule_name c.args.fault.reason.rule)) (r3) in
    let r1 : Members = count_member (codes "line") c.args.fault.line (r2) in
    on_ok_weaker c.close.result (λ told. object-written c.args.out.now.items c.extend_from_slice.new.self.items c.close.new.out.items (count_member (codes "at") c.args.fault.reason.at (r1)) c.in_ok-extend_from_slice.ensures.items (told ∙ (c.in_ok-append_word-2.ensures r4 ∙ (c.in_ok-append_word.ensures r3 ∙ ap (λ n. c.append_count-2.new.out.items ++ members_text true (member (codes "rule") (string n) (r3))) (c.name.ensures) ∙ (c.in_ok-append_count-2.ensures r2 ∙ (c.in_ok-append_count.ensures r1 ∙ ap (λ n. c.extend_from_slice.new.self.items ++ members_text false (count_member (codes "at") n (r1))) (c.from.ensures))))))) c.close.ensures
