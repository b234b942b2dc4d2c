use Rattle.std.proofs.Common.{◌≡◌, ◌++◌, take, flat_map}
use Rattle.pass_grouping.specs.Groupings.{passes_from}
use Rattle.verdict_report.specs.PassesText.{pass_text}
use Rattle.verdict_report.proofs.passes.append_passes.Given as goal

abbrev pub invariant-loop-k : goal.invariant-loop-k
invariant-loop-k l = l.out.items ≡ l.fn.out.items ++ flat_map (pass_text l.declared) (take l.k (passes_from l.ops l.starts))
