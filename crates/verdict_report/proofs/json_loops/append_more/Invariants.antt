use Rattle.std.proofs.Common.{◌≡◌, ◌++◌, drop, map, string_bytes}
use Rattle.verdict_report.specs.JsonText.{loop_json, more_text}
use Rattle.verdict_report.proofs.json_loops.append_more.Given as goal

abbrev pub invariant-facts : goal.invariant-facts
invariant-facts l =
    l.out.items ++ more_text (loop_json (map string_bytes l.strings)) (drop l.i l.facts)
    ≡ l.fn.out.items ++ more_text (loop_json (map string_bytes l.strings)) (drop 1 l.facts)
