use Rattle.std.proofs.Common.{◌≡◌, ◌++◌, length}
use Rattle.std.specs.Vec.Iter.{into_iter_items, into_iter_len}
use Rattle.check_workers.specs.Texts.{ArePrepared}
use Rattle.check_workers.proofs.prepare.prepare_in_turn.Given as goal

abbrev pub invariant-loop-text : goal.invariant-loop-text
invariant-loop-text g l = record {
  all : l.yielded ++ into_iter_items l.text-iterator ≡ into_iter_items l.initial.text-iterator;
  left : into_iter_len l.text-iterator ≡ length (into_iter_items l.text-iterator);
  so_far : ArePrepared l.setting l.yielded l.blocks.items;
}
