use Rattle.std.proofs.Common.{◌≡◌, ◌++◌, drop, length}
use Rattle.reply_report.specs.TallyText.{with_lines}
use Rattle.reply_report.proofs.tally.append_with.Given as goal

abbrev pub invariant-loop-c : goal.invariant-loop-c
invariant-loop-c l = (l.out.items ++ with_lines (drop l.c l.declared) (drop l.c l.numbers) ≡ l.fn.out.items ++ with_lines l.declared l.numbers) × (l.c-end ≡ length l.declared)
