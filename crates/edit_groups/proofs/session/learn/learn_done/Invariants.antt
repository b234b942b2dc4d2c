use Rattle.std.proofs.Common.{◌≡◌, ◌+◌, ℕ, List, length}
use Rattle.edit_journal.specs.declared.edit.Edit.{Edit}
use Rattle.edit_book.specs.Memory.{Memory}
use Rattle.edit_book.specs.Session.{HasLearned, HasStampRoom}
use Rattle.edit_groups.specs.Turns.{IsTaught}
use Rattle.edit_groups.proofs.Learning.{IsLearning}
use Rattle.edit_groups.proofs.session.learn.learn_done.Given as goal

abbrev pub invariant-loop-command : goal.invariant-loop-command
invariant-loop-command l = record {
  room : (more : ℕ) → more + l.command-index ≡ length l.commands → HasStampRoom more l.learned;
  learning : (m : Memory) (edits : List Edit) → HasLearned l.initial.learned m → IsTaught m l.fn.from l.fn.ids l.commands edits → IsLearning m l.fn.from l.brief l.commands edits l.initial.learned.head l.command-index l.learned l.version l.next_id;
}
