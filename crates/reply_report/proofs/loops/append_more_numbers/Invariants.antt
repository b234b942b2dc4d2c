use Rattle.std.proofs.Common.{◌≡◌, ◌++◌, decimal, take}
use Rattle.verdict_report.specs.JsonText.{more_text}
use Rattle.reply_report.proofs.loops.append_more_numbers.Given as goal

abbrev pub invariant-lines : goal.invariant-lines
invariant-lines l = l.out.items ≡ l.fn.out.items ++ more_text decimal (take l.line-index l.lines)
