use Rattle.std.proofs.Common.{◌≡◌, ◌++◌, drop}
use Rattle.verdict_report.specs.PassesText.{windows_behind, windows_told}
use Rattle.verdict_report.proofs.passes.append_told_windows.Given as goal

-- what is written, and the windows of the passes that are left, are all of them
abbrev pub invariant-facts : goal.invariant-facts
invariant-facts l = l.out.items ++ windows_behind l.before (drop l.fact-index l.facts) ≡ l.fn.out.items ++ windows_told l.facts
