use Rattle.std.proofs.Common.{◌≡◌, ◌++◌, take}
use Rattle.verdict_report.specs.VerdictText.{lines_text}
use Rattle.verdict_report.proofs.text.append_lines.Given as goal

abbrev pub invariant-lines : goal.invariant-lines
invariant-lines l = l.out.items ≡ l.fn.out.items ++ lines_text (take l.line-index l.lines)
