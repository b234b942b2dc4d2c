use Rattle.std.proofs.Common.{◌≡◌, ◌++◌, take}
use Rattle.verdict_report.specs.VerdictText.{names_text}
use Rattle.verdict_report.proofs.text.append_names.Given as goal

abbrev pub invariant-carriers : goal.invariant-carriers
invariant-carriers l = l.out.items ≡ l.fn.out.items ++ names_text l.declared (take l.c-index l.carriers)
