use Rattle.std.proofs.Common.{◌≡◌, ◌++◌, drop}
use Rattle.knit_base.specs.Names.{spaced_names}
use Rattle.edit_journal.proofs.entry_line.append_names.Given as goal

abbrev pub invariant-names : goal.invariant-names
invariant-names l = l.out.items ++ spaced_names (drop l.c l.declared) ≡ l.fn.out.items ++ spaced_names l.declared
