use Rattle.std.proofs.Common.{◌∙◌, ◌++◌, ap, true, false, codes}
use Rattle.std.proofs.lemmas.Result.{on_ok_weaker}
use Rattle.knit_base.specs.Spelling.{dir_word, needle_text}
use Rattle.verdict_report.specs.VerdictJson.{count_value, list_value, name_value}
use Rattle.serde_json.specs.Data.{Members, member, no_members, string}
use Rattle.reply_report.specs.TalkJson.{count_member}
use Rattle.serde_json.specs.Written.{members_text}
use Rattle.reply_report.proofs.JsonMembers.{object-written}
use Rattle.reply_report.proofs.loops.append_loop.Goals as goal

pub returns : goal.returns
returns c =
    let r5 : Members = no_members in
    let r4 : Members = member (codes "yarns") (list_value (name_value c.args.declared.now) c.args.fact.now.yarns) (r5) in
    let r3 : Members = member (codes "through") (list_value count_value c.args.fact.now.through) (r4) in
    let r2 : Members = member (codes "needle") (string (needle_text c.args.fact.now.needle)) (r3) in
    let r1 : Members = count_member (codes "line") c.args.fact.now.line (r2) in
    on_ok_weaker c.close.result (λ told. object-written c.args.out.now.items c.extend_from_slice.new.self.items c.close.new.out.items (member (codes "dir") (string (dir_word c.args.fact.now.dir)) (r1)) c.in_ok-extend_from_slice.ensures.items (told ∙ (c.in_ok-append_yarns.ensures r5 ∙ ap (λ n. c.append_through.new.out.items ++ members_text true (member (codes "yarns") (list_value (name_value c.args.declared.now) n) (r5))) (c.as_slice-2.ensures.items) ∙ (c.in_ok-append_through.ensures r4 ∙ ap (λ n. c.append_needle_member.new.out.items ++ members_text true (member (codes "through") (list_value count_value n) (r4))) (c.as_slice.ensures.items) ∙ (c.in_ok-append_needle_member.ensures r3 ∙ (c.in_ok-append_count.ensures r2 ∙ (c.in_ok-append_word.ensures r1 ∙ ap (λ n. c.extend_from_slice.new.self.items ++ members_text false (member (codes "dir") (string n) (r1))) (c.sign.ensures)))))))) c.close.ensures
