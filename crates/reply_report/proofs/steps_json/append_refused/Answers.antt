use Rattle.std.proofs.Common.{◌∙◌, codes}
use Rattle.std.proofs.lemmas.Result.{on_ok_weaker}
use Rattle.std.proofs.Common.{None, Some}
use Rattle.edit_journal.specs.Documents.{names_at}
use Rattle.serde_json.specs.Data.{Members, member, object}
use Rattle.reply_report.specs.TalkJson.{frame_members, told_members, version_member}
use Rattle.reply_report.proofs.steps_json.append_refused.Goals as goal

pub returns : goal.returns
returns c =
    let r3 : Members = version_member c.args.base in
    let r2 : Members = member (codes "told") (object (told_members (names_at c.args.book.now.opening c.args.book.now.entries) c.args.broken None c.args.reply.now)) (r3) in
    let r1 : Members = frame_members (Some c.args.frame) (codes "refused") (r2) in
    on_ok_weaker c.append_version.result (λ told. told ∙ (c.in_ok-append_inner.ensures r3 ∙ (c.in_ok-append_frame.ensures r2 ∙ (c.in_ok-append_count.ensures r1)))) c.append_version.ensures
