use Rattle.std.proofs.Common.{◌≡◌, ◌++◌, codes, drop, flat_map, length}
use Rattle.journal_file.specs.Spelling.{count_spelling, entry_lines}
use Rattle.journal_file.proofs.write.append_entries.Given as goal

abbrev pub invariant-entries : goal.invariant-entries
invariant-entries g l = l.out.items ++ flat_map entry_lines (drop l.before l.journal.entries) ≡ l.fn.out.items ++ (count_spelling (codes "entries ") (length l.journal.entries) ++ flat_map entry_lines l.journal.entries)
