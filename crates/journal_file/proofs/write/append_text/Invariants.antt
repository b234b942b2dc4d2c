use Rattle.std.proofs.Common.{◌≡◌, ◌++◌, drop}
use Rattle.journal_file.specs.Spelling.{text_lines}
use Rattle.journal_file.proofs.write.append_text.Given as goal

abbrev pub invariant-lines : goal.invariant-lines
invariant-lines g l = l.out.items ++ text_lines (drop l.at l.text) ≡ l.fn.out.items ++ text_lines l.text
