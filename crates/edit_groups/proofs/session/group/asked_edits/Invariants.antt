use Rattle.std.proofs.Common.{◌≡◌, List, Some, length, map, take}
use Rattle.edit_journal.specs.Documents.{names_given}
use Rattle.edit_journal.specs.declared.edit.Entry.{Entry}
use Rattle.edit_journal.specs.declared.opening.Opening.{Opening}
use Rattle.edit_book.specs.Memory.{Memory, asked_of_book}
use Rattle.edit_book.specs.Session.{HasLearned}
use Rattle.edit_groups.specs.Groups.{AreFitEdits, edit_asked}
use Rattle.edit_groups.proofs.session.group.asked_edits.Given as goal

abbrev pub invariant-loop-command : goal.invariant-loop-command
invariant-loop-command g l = record {
  count : length l.edits ≡ l.command-index;
  fit : (opening : Opening) (journal : List Entry) → opening.setting.profile ≡ l.header.profile → names_given opening journal l.learned.head ≡ Some l.header.declared → AreFitEdits opening journal l.edits;
  asked : (m : Memory) → HasLearned l.learned m → map edit_asked l.edits ≡ map (asked_of_book m) (take l.command-index l.commands);
}
