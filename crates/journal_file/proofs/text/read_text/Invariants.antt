use Rattle.std.proofs.Common.{◌≡◌, ℕ, List, ◌+◌, ◌++◌, ◌≤◌, length}
use Rattle.journal_file.specs.Reading.{FormHasRead, byte_limit}
use Rattle.journal_file.specs.Texts.{TextLinesForm}
use Rattle.journal_file.proofs.text.read_text.Given as goal

abbrev pub invariant-loop-i : goal.invariant-loop-i
invariant-loop-i l = (l.at.taken + length l.at.rest.now ≤ byte_limit)
    × ((said : List (List ℕ)) × (l.texts ≡ l.fn.texts ++ said) × (length said ≡ l.i) × FormHasRead (TextLinesForm l.i) l.fn.start.rest.now l.fn.start.taken said l.at.rest.now l.at.taken)
