use Rattle.std.proofs.Common.{◌≡◌, ◌+◌, ◌++◌, false, drop}
use Rattle.serde_json.specs.View.{items_of}
use Rattle.serde_json.specs.Written.{items_text}
use Rattle.reply_report.specs.TalkJson.{numbered_values}
use Rattle.reply_report.proofs.since_json.append_entry_items.Given as goal

abbrev pub invariant-each : goal.invariant-each
invariant-each l =
    l.out.items ++ items_text l.later (items_of (numbered_values (l.at + 1) (drop l.at l.journal.entries))) ≡ l.fn.out.items ++ items_text false (items_of (numbered_values (l.from + 1) (drop l.from l.journal.entries)))
