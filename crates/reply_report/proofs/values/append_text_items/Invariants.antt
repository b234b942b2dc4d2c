use Rattle.std.proofs.Common.{◌≡◌, ◌++◌, false, drop, map}
use Rattle.serde_json.specs.View.{items_of}
use Rattle.serde_json.specs.Written.{items_text}
use Rattle.serde_json.specs.Data.{string}
use Rattle.reply_report.proofs.values.append_text_items.Given as goal

abbrev pub invariant-lines : goal.invariant-lines
invariant-lines g l = l.out.items ++ items_text l.later (items_of (map string (drop l.at l.text))) ≡ l.fn.out.items ++ items_text false (items_of (map string l.text))
