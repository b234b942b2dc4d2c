use Rattle.std.proofs.Common.{◌≡◌, ◌++◌, false, drop}
use Rattle.serde_json.specs.View.{items_of}
use Rattle.serde_json.specs.Written.{items_text}
use Rattle.reply_report.specs.TallyJson.{carrier_values}
use Rattle.reply_report.proofs.tally_json.append_carrier_items.Given as goal

abbrev pub invariant-each : goal.invariant-each
invariant-each l = l.out.items ++ items_text l.later (items_of (carrier_values (drop l.at l.declared) (drop l.at l.numbers))) ≡ l.fn.out.items ++ items_text false (items_of (carrier_values l.declared l.numbers))
