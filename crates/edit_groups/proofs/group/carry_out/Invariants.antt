use Rattle.std.proofs.Common.{◌≡◌, ◌≤◌, ◌+◌, ◌++◌, length, map}
use Rattle.std.specs.Vec.Iter.{into_iter_items, into_iter_len}
use Rattle.edit_book.specs.Books.{document}
use Rattle.edit_groups.specs.Carried.{IsCarriedOut}
use Rattle.edit_groups.specs.Groups.{AreFitEdits, each_limit, edit_asked}
use Rattle.edit_groups.proofs.group.carry_out.Given as goal

abbrev pub invariant-loop-edit : goal.invariant-loop-edit
invariant-loop-edit g l = record {
  all : l.yielded ++ into_iter_items l.edit-iterator ≡ into_iter_items l.initial.edit-iterator;
  left : into_iter_len l.edit-iterator ≡ length (into_iter_items l.edit-iterator);
  counted : l.at ≡ length l.yielded;
  many : length l.done ≡ l.at;
  few : length (into_iter_items l.initial.edit-iterator) ≤ 64;
  opening : l.book.opening ≡ l.initial.book.opening;
  fits : AreFitEdits l.book.opening l.book.entries (into_iter_items l.edit-iterator);
  carried : IsCarriedOut l.initial.book.opening l.number l.initial.book.entries (map edit_asked l.yielded) l.done l.book.entries;
  steps : l.steps + each_limit l.book.opening (document l.book) (length l.book.entries) (into_iter_items l.edit-iterator)
      ≤ l.initial.steps + each_limit l.initial.book.opening (document l.initial.book) (length l.initial.book.entries) (into_iter_items l.initial.edit-iterator);
}
