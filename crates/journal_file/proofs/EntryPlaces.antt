-- The entry that stands behind so many others.
use Rattle.std.proofs.Common.{◌≡◌, ℕ, suc, ◌+◌, List, slice_get, ap, arith}
use Rattle.edit_journal.specs.declared.edit.Entry.{Entry}
use Rattle.edit_journal.specs.Entries.{entry_at}

-- numbers begin at 1, and places at 0
pub entry-behind : (entries : List Entry) (before : ℕ) → entry_at entries (before + 1) ≡ slice_get entries before
entry-behind entries before =
    let next : before + 1 ≡ suc before = omega arith in
    ap (entry_at entries) next
