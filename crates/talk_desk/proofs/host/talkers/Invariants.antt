use Rattle.std.proofs.Common.{◌≡◌, length}
use Rattle.edit_groups.specs.Chunks.{earlier_steps}
use Rattle.talk_desk.specs.Hosts.{AreFresh}
use Rattle.talk_desk.proofs.host.talkers.Given as goal

abbrev pub invariant-sessions : goal.invariant-sessions
invariant-sessions l = record {
  all : length l.talkers.items ≡ l.number;
  fresh : AreFresh l.book.opening (earlier_steps l.book.entries) 0 l.talkers.items;
}
