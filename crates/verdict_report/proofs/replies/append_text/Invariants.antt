use Rattle.std.proofs.Common.{◌≡◌, ◌++◌, drop, flat_map}
use Rattle.verdict_report.specs.LiveText.{barred_line}
use Rattle.verdict_report.proofs.replies.append_text.Given as goal

abbrev pub invariant-lines : goal.invariant-lines
invariant-lines l = l.out.items ++ flat_map barred_line (drop l.i l.lines) ≡ l.fn.out.items ++ flat_map barred_line l.lines
