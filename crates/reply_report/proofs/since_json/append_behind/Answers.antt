use Rattle.std.proofs.Common.{◌∙◌, ◌++◌, ap, true, codes}
use Rattle.std.proofs.lemmas.Result.{on_ok_weaker}
use Rattle.std.proofs.Common.{Some, length}
use Rattle.serde_json.specs.Data.{Members}
use Rattle.reply_report.specs.TalkJson.{count_member, frame_members, version_member}
use Rattle.serde_json.specs.Written.{members_text}
use Rattle.reply_report.proofs.since_json.append_behind.Goals as goal

pub returns : goal.returns
returns c =
    let r3 : Members = version_member (length c.args.journal.now.entries) in
    let r2 : Members = frame_members (Some c.args.frame) (codes "since") (r3) in
    let r1 : Members = count_member (codes "from") c.args.from (r2) in
    on_ok_weaker c.append_version.result (λ told. told ∙ (ap (λ n. c.append_frame.new.out.items ++ members_text true (version_member n)) (c.len.ensures.len) ∙ (c.in_ok-append_frame.ensures r3 ∙ (c.in_ok-append_count.ensures r2 ∙ (c.in_ok-append_entries.ensures r1))))) c.append_version.ensures
