use Rattle.std.proofs.Common.{◌≡◌, ◌++◌, drop, flat_map}
use Rattle.verdict_report.specs.LiveText.{barred_line}
use Rattle.reply_report.proofs.texts.append_lines.Given as goal

abbrev pub invariant-lines : goal.invariant-lines
invariant-lines g l = l.out.items ++ flat_map barred_line (drop l.at l.text) ≡ l.fn.out.items ++ flat_map barred_line l.text
