use Rattle.std.proofs.Common.{◌∙◌, codes}
use Rattle.std.proofs.lemmas.Result.{on_ok_weaker}
use Rattle.serde_json.specs.Data.{Members, no_members}
use Rattle.reply_report.specs.TalkJson.{count_member}
use Rattle.reply_report.proofs.JsonMembers.{object-written}
use Rattle.reply_report.proofs.values.append_place.Goals as goal

pub returns : goal.returns
returns c =
    let r2 : Members = no_members in
    let r1 : Members = count_member (codes "line") c.args.place.line (r2) in
    on_ok_weaker c.close.result (λ told. object-written c.args.out.now.items c.extend_from_slice.new.self.items c.close.new.out.items (count_member (codes "block") c.args.place.block (r1)) c.in_ok-extend_from_slice.ensures.items (told ∙ (c.in_ok-append_count-2.ensures r2 ∙ (c.in_ok-append_count.ensures r1)))) c.close.ensures
