use Rattle.std.proofs.Common.{◌≡◌, List, [], ◌+◌, ◌≤◌, length, map}
use Rattle.journal_file.specs.EntryForms.{AreEntries}
use Rattle.journal_file.specs.Reading.{FormHasRead, byte_limit}
use Rattle.journal_file.specs.SavedForms.{EntrySaid, entry_said}
use Rattle.journal_file.specs.SavedParts.{MayAllCome}
use Rattle.journal_file.proofs.entries.read_entries.Given as goal

abbrev pub invariant-loop-i : goal.invariant-loop-i
invariant-loop-i l = record {
  size : l.at.taken + length l.at.rest.now ≤ byte_limit;
  opening : l.outline.opening ≡ l.fn.outline.opening;
  read : (said : List EntrySaid) × (l.outline.entries ≡ map entry_said said) × FormHasRead (AreEntries l.i) l.fn.start.rest.now l.fn.start.taken said l.at.rest.now l.at.taken;
  come : MayAllCome l.fn.outline.opening [] l.outline.entries;
}
