use Rattle.std.proofs.Common.{None, codes, true}
use Rattle.std.proofs.lemmas.Result.{on_ok_weaker}
use Rattle.edit_journal.specs.Documents.{names_at}
use Rattle.serde_json.specs.Data.{Members, object}
use Rattle.serde_json.specs.Written.{compact_text}
use Rattle.reply_report.specs.TalkJson.{told_members}
use Rattle.reply_report.proofs.JsonMembers.{member-written, object-written}
use Rattle.reply_report.proofs.steps_json.append_inner.Goals as goal

pub returns : goal.returns
returns c =
    let ms : Members = told_members (names_at c.args.book.now.opening c.args.book.now.entries) c.args.broken None c.args.reply.now in
    on_ok_weaker c.append_told.result
    (λ told. member-written true (codes "told") (compact_text (object ms)) c.args.out.now.items c.append_key.new.out.items c.append_told.new.out.items c.in_ok-append_key.ensures
    (object-written c.append_key.new.out.items c.extend_from_slice.new.self.items c.append_told.new.out.items ms c.in_ok-extend_from_slice.ensures.items told)) c.append_told.ensures
