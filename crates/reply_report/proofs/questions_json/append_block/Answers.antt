use Rattle.std.proofs.Common.{◌∙◌, codes}
use Rattle.std.proofs.lemmas.Result.{on_ok_weaker}
use Rattle.serde_json.specs.Data.{Members, no_members}
use Rattle.reply_report.specs.TalkJson.{count_member}
use Rattle.reply_report.proofs.JsonMembers.{object-written}
use Rattle.reply_report.proofs.questions_json.append_block.Goals as goal

pub returns : goal.returns
returns c =
    let r4 : Members = no_members in
    let r3 : Members = count_member (codes "stamp") c.args.place.stamp (r4) in
    let r2 : Members = count_member (codes "lines") c.args.place.lines (r3) in
    let r1 : Members = count_member (codes "first") c.args.place.first (r2) in
    on_ok_weaker c.close.result (λ told. object-written c.args.out.now.items c.extend_from_slice.new.self.items c.close.new.out.items (count_member (codes "block") c.args.place.block (r1)) c.in_ok-extend_from_slice.ensures.items (told ∙ (c.in_ok-append_count-4.ensures r4 ∙ (c.in_ok-append_count-3.ensures r3 ∙ (c.in_ok-append_count-2.ensures r2 ∙ (c.in_ok-append_count.ensures r1)))))) c.close.ensures
