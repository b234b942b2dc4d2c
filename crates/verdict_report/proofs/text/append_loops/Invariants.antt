use Rattle.std.proofs.Common.{◌≡◌, ◌++◌, drop, flat_map}
use Rattle.verdict_report.specs.VerdictText.{loop_text}
use Rattle.verdict_report.proofs.text.append_loops.Given as goal

abbrev pub invariant-facts : goal.invariant-facts
invariant-facts l =
    l.out.items ++ flat_map (loop_text l.declared) (drop l.i l.facts) ≡ l.fn.out.items ++ flat_map (loop_text l.declared) l.facts
