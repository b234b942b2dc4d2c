use Rattle.std.proofs.Common.{◌∙◌, ℕ, get_or, ap, sym, arith}
use Rattle.std.specs.Option.{option_copied}
use Rattle.std.proofs.lemmas.Result.{on_ok_weaker}
use Rattle.knit_base.proofs.Rests.{item-there}
use Rattle.reply_report.proofs.TallyValues.{carrier-written}
use Rattle.reply_report.proofs.tally_json.append_carrier_at.Goals as goal

pub unreachable-requires : goal.unreachable-requires
unreachable-requires c = item-there c.args.declared.now c.args.at c.requires.there (sym c.name.ensures ∙ ap option_copied c.in_default.is)

pub returns : goal.returns
returns c =
    on_ok_weaker c.append_carrier.result
    (λ written. carrier-written c.args.declared.now c.args.numbers.now c.args.at _ 0 c.in-Some.name.now c.args.later c.args.out.now.items c.append_comma.new.out.items c.append_carrier.new.out.items (sym c.name.ensures ∙ ap option_copied c.in-Some.is)
    (omega (arith, c.requires.there, c.requires.same)) (ap (λ (k : ℕ). get_or c.args.numbers.now k 0) c.from.ensures) c.in_ok-append_comma.ensures written) c.append_carrier.ensures
