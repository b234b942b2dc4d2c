use Rattle.std.proofs.Common.{◌∙◌, codes}
use Rattle.std.proofs.lemmas.Result.{on_ok_weaker}
use Rattle.knit_base.specs.Spelling.{rack_text}
use Rattle.serde_json.specs.Data.{Members, member, no_members, string}
use Rattle.reply_report.specs.TalkJson.{count_member}
use Rattle.reply_report.proofs.JsonMembers.{object-written}
use Rattle.reply_report.proofs.values.append_sound.Goals as goal

pub returns : goal.returns
returns c =
    let r5 : Members = no_members in
    let r4 : Members = member (codes "verdict") (string (codes "sound")) (r5) in
    let r3 : Members = member (codes "rack") (string (rack_text c.args.rack.0)) (r4) in
    let r2 : Members = count_member (codes "made") c.args.made (r3) in
    let r1 : Members = count_member (codes "lines") c.args.lines (r2) in
    on_ok_weaker c.close.result (λ told. object-written c.args.out.now.items c.extend_from_slice.new.self.items c.close.new.out.items (count_member (codes "held") c.args.held (r1)) c.in_ok-extend_from_slice.ensures.items (told ∙ (c.in_ok-append_word.ensures r5 ∙ (c.in_ok-append_rack_member.ensures r4 ∙ (c.in_ok-append_count-3.ensures r3 ∙ (c.in_ok-append_count-2.ensures r2 ∙ (c.in_ok-append_count.ensures r1))))))) c.close.ensures
