use Rattle.std.proofs.Common.{◌≡◌, length, take}
use Rattle.edit_journal.specs.declared.opening.Opening.{Opening}
use Rattle.edit_sessions.specs.Talks.{IsTalkReady}
use Rattle.turn_book.specs.Ready.{AreReady}
use Rattle.edit_sessions.proofs.run.begin.Given as goal

abbrev pub invariant-loop-i : goal.invariant-loop-i
invariant-loop-i l = record {
  count : length l.talks.items ≡ l.i;
  ready : (opening : Opening) → length opening.texts ≡ l.blocks → opening.setting.declared ≡ l.declared → AreReady (IsTalkReady opening) l.first (take l.i l.scripts) l.talks.items;
}
