use Rattle.std.proofs.Common.{◌≡◌, ◌∙◌, ◌++◌, false, codes, ap}
use Rattle.std.proofs.lemmas.Result.{on_ok_weaker}
use Rattle.json.specs.Print.{quoted}
use Rattle.verdict_report.specs.LiveText.{block_name_text}
use Rattle.reply_report.proofs.JsonMembers.{member-written}
use Rattle.reply_report.proofs.members.append_name.Goals as goal

pub returns : goal.returns
returns c =
    let spelt : c.deref.result.now ≡ block_name_text c.args.name = c.deref.ensures.value ∙ (c.in_ok-spell_name.ensures ∙ ap (λ t. t ++ block_name_text c.args.name) c.new-spelt.ensures.items) in
    on_ok_weaker c.append_bytes.result
    (λ written. member-written false (codes "name") (quoted (block_name_text c.args.name)) c.args.out.now.items c.append_key.new.out.items c.append_bytes.new.out.items c.in_ok-append_key.ensures
    (written ∙ ap (λ t. c.append_key.new.out.items ++ quoted t) spelt)) c.append_bytes.ensures
