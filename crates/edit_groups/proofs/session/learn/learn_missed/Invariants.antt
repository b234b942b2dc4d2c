use Rattle.std.proofs.Common.{◌≡◌, take}
use Rattle.edit_book.specs.Memory.{Memory}
use Rattle.edit_book.specs.Session.{HasLearned}
use Rattle.edit_groups.specs.Sessions.{missed_memory}
use Rattle.edit_groups.proofs.session.learn.learn_missed.Given as goal

abbrev pub invariant-loop-command : goal.invariant-loop-command
invariant-loop-command l = record {
  learned : (m : Memory) → HasLearned l.initial.learned m → HasLearned l.learned (missed_memory m (take l.command-index l.commands));
  head : l.learned.head ≡ l.initial.learned.head;
}
