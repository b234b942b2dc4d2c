use Rattle.std.proofs.Common.{◌∙◌, codes}
use Rattle.std.proofs.lemmas.Result.{on_ok_weaker}
use Rattle.serde_json.specs.Data.{Members, member, no_members, string}
use Rattle.reply_report.specs.TalkJson.{count_member}
use Rattle.reply_report.proofs.JsonMembers.{object-written}
use Rattle.reply_report.proofs.tally_json.append_carrier.Goals as goal

pub returns : goal.returns
returns c =
    let r1 : Members = count_member (codes "lines") c.args.lines no_members in
    on_ok_weaker c.close.result (λ told. object-written c.args.out.now.items c.extend_from_slice.new.self.items c.close.new.out.items (member (codes "carrier") (string c.args.name.now) r1) c.in_ok-extend_from_slice.ensures.items (told ∙ (c.in_ok-append_count.ensures no_members ∙ c.in_ok-append_word.ensures r1))) c.close.ensures
