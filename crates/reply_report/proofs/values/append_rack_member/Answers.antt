use Rattle.std.proofs.Common.{◌≡◌, ◌∙◌, ◌++◌, true, codes, ap}
use Rattle.std.proofs.lemmas.Result.{on_ok_weaker}
use Rattle.json.specs.Print.{quoted}
use Rattle.knit_base.specs.Spelling.{rack_text}
use Rattle.reply_report.proofs.JsonMembers.{member-written}
use Rattle.reply_report.proofs.values.append_rack_member.Goals as goal

pub returns : goal.returns
returns c =
    let spelt : c.deref.result.now ≡ rack_text c.args.rack.0 = c.deref.ensures.value ∙ (c.in_ok-append_rack.ensures.ok ∙ ap (λ t. t ++ rack_text c.args.rack.0) c.new-spelt.ensures.items) in
    on_ok_weaker c.append_bytes.result
    (λ written. member-written true (codes "rack") (quoted (rack_text c.args.rack.0)) c.args.out.now.items c.append_key.new.out.items c.append_bytes.new.out.items c.in_ok-append_key.ensures
    (written ∙ ap (λ t. c.append_key.new.out.items ++ quoted t) spelt)) c.append_bytes.ensures
