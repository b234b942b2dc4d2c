use Rattle.std.proofs.Common.{◌≡◌, ◌++◌, take, flat_map}
use Rattle.verdict_report.specs.PassesText.{fact_text}
use Rattle.verdict_report.proofs.passes.append_facts.Given as goal

abbrev pub invariant-facts : goal.invariant-facts
invariant-facts l = l.out.items ≡ l.fn.out.items ++ flat_map (fact_text l.declared) (take l.fact-index l.facts)
