use Rattle.std.proofs.Common.{◌∙◌, ◌++◌, ap, false, codes}
use Rattle.std.proofs.lemmas.Result.{on_ok_weaker}
use Rattle.serde_json.specs.Data.{Members, member, no_members, string}
use Rattle.reply_report.specs.TalkJson.{count_member, reply_member}
use Rattle.serde_json.specs.Written.{members_text}
use Rattle.reply_report.proofs.whole_json.append_bad_line.Goals as goal

pub returns : goal.returns
returns c =
    let r3 : Members = no_members in
    let r2 : Members = reply_member (codes "badinput") (r3) in
    let r1 : Members = count_member (codes "line") c.args.line (r2) in
    on_ok_weaker c.close.result (λ told. told ∙ (c.in_ok-append_word-2.ensures r3 ∙ (c.in_ok-append_wide.ensures r2 ∙ (c.in_ok-append_word.ensures r1 ∙ ap (λ n. c.args.out.now.items ++ members_text false (member (codes "cause") (string n) (r1))) (c.cause_name.ensures))))) c.close.ensures
