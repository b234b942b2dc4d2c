use Rattle.std.proofs.Common.{◌≡◌, ◌++◌, drop, length, codes}
use Rattle.journal_file.specs.Spelling.{count_spelling, text_lines}
use Rattle.journal_file.proofs.write.append_head.Given as goal

abbrev pub invariant-lines : goal.invariant-lines
invariant-lines l = l.out.items ++ text_lines (drop l.at l.head) ≡ l.fn.out.items ++ (count_spelling (codes "head ") (length l.head) ++ text_lines l.head)
