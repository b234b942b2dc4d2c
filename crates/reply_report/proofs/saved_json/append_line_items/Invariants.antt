use Rattle.std.proofs.Common.{◌≡◌, ◌++◌, false, length, map}
use Rattle.serde_json.specs.Data.{string}
use Rattle.serde_json.specs.View.{items_of}
use Rattle.serde_json.specs.Written.{items_text}
use Rattle.reply_report.specs.TalkJson.{saved_lines}
use Rattle.reply_report.proofs.saved_json.append_line_items.Given as goal

abbrev pub invariant-lines : goal.invariant-lines
invariant-lines l = l.out.items ++ items_text l.later (items_of (map string (saved_lines l.rest))) ≡ l.fn.out.items ++ items_text false (items_of (map string (saved_lines l.text)))

abbrev pub decreases-lines : goal.decreases-lines
decreases-lines l = length l.rest
