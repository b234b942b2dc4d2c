use Rattle.std.proofs.Common.{◌≡◌, ◌++◌, take, flat_map}
use Rattle.verdict_report.specs.VerdictText.{stack_text}
use Rattle.verdict_report.proofs.text.append_stacks.Given as goal

abbrev pub invariant-stacks : goal.invariant-stacks
invariant-stacks l = l.out.items ≡ l.fn.out.items ++ flat_map stack_text (take l.stack-index l.stacks)
