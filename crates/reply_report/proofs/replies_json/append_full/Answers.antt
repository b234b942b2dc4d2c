use Rattle.std.proofs.Common.{◌∙◌, ◌++◌, ap, true, codes}
use Rattle.std.proofs.lemmas.Result.{on_ok_weaker}
use Rattle.verdict_report.specs.LiveText.{which_word}
use Rattle.serde_json.specs.Data.{Members, member, no_members, string}
use Rattle.reply_report.specs.TalkJson.{count_member, frame_members}
use Rattle.serde_json.specs.Written.{members_text}
use Rattle.reply_report.proofs.replies_json.append_full.Goals as goal

pub returns : goal.returns
returns c =
    let r4 : Members = no_members in
    let r3 : Members = member (codes "which") (string (which_word c.args.which)) (r4) in
    let r2 : Members = count_member (codes "version") c.args.version (r3) in
    let r1 : Members = frame_members c.args.frame (codes "full") (r2) in
    on_ok_weaker c.close.result (λ told. told ∙ (c.in_ok-append_word.ensures r4 ∙ ap (λ n. c.append_count-2.new.out.items ++ members_text true (member (codes "which") (string n) (r4))) (c.which_word.ensures) ∙ (c.in_ok-append_count-2.ensures r3 ∙ (c.in_ok-append_frame.ensures r2 ∙ (c.in_ok-append_count.ensures r1))))) c.close.ensures
