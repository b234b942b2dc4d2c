use Rattle.std.proofs.Common.{◌≡◌, ◌++◌, take, map, string_bytes}
use Rattle.verdict_report.specs.JsonText.{more_text}
use Rattle.verdict_report.proofs.json_list.append_more.Given as goal

abbrev pub invariant-items : goal.invariant-items
invariant-items g l = l.out.items ≡ l.fn.out.items ++ more_text (g.T.ListItem.text (map string_bytes l.strings)) (take l.item-index l.items)
