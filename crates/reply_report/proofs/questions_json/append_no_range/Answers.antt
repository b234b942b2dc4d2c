use Rattle.std.proofs.Common.{◌∙◌, ◌++◌, ap, true, false, codes}
use Rattle.std.proofs.lemmas.Result.{on_ok_weaker}
use Rattle.std.proofs.Common.{Some, length}
use Rattle.serde_json.specs.Data.{Members}
use Rattle.reply_report.specs.TalkJson.{count_member, frame_members, version_member}
use Rattle.serde_json.specs.Written.{members_text}
use Rattle.reply_report.proofs.questions_json.append_no_range.Goals as goal

pub returns : goal.returns
returns c =
    let r2 : Members = version_member (length c.args.book.now.entries) in
    let r1 : Members = frame_members (Some c.args.frame) (codes "norange") (r2) in
    on_ok_weaker c.append_version.result (λ told. told ∙ (ap (λ n. c.append_frame.new.out.items ++ members_text true (version_member n)) (c.version.ensures.version) ∙ (c.in_ok-append_frame.ensures r2 ∙ (c.in_ok-append_count.ensures r1 ∙ ap (λ n. c.args.out.now.items ++ members_text false (count_member (codes "blocks") n (r1))) (c.block_count.ensures))))) c.append_version.ensures
