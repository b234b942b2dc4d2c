use Rattle.std.proofs.Common.{◌≡◌, ◌≤◌, ℕ, List, length, take, vec_capacity}
use Rattle.edit_journal.specs.declared.edit.Entry.{Entry}
use Rattle.edit_journal.proofs.journal.Journal.try_clone.Given as goal

-- the entries so far are copied, and there is room for the rest
pub record IsCopied (entries copied : List Entry) (i room : ℕ) : Type 0 where
  pub copied_are : copied ≡ take i entries
  pub enough : length entries ≤ room

abbrev pub invariant-loop-entry : goal.invariant-loop-entry
invariant-loop-entry l = IsCopied l.entry-items l.entries.items l.entry-index (vec_capacity l.entries)
