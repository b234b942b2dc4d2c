use Rattle.std.proofs.Common.{◌∙◌, ap, sym}
use Rattle.std.specs.Option.{option_copied}
use Rattle.std.proofs.lemmas.Result.{on_ok_weaker}
use Rattle.knit_base.proofs.Rests.{item-there}
use Rattle.serde_json.specs.Data.{string}
use Rattle.reply_report.proofs.JsonMembers.{item-written}
use Rattle.reply_report.proofs.since_json.append_name_at.Goals as goal

pub unreachable-requires : goal.unreachable-requires
unreachable-requires c = item-there c.args.declared.now c.args.at c.requires (sym c.name.ensures ∙ ap option_copied c.in_default.is)

pub returns : goal.returns
returns c =
    on_ok_weaker c.append_string.result
    (λ written. item-written string c.args.declared.now c.args.at _ c.args.later c.args.out.now.items c.append_comma.new.out.items c.append_string.new.out.items (sym c.name.ensures ∙ ap option_copied c.in-Some.is) c.in_ok-append_comma.ensures (written)) c.append_string.ensures
