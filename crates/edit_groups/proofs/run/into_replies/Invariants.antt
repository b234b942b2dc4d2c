use Rattle.std.proofs.Common.{◌≡◌, ◌≤◌, ◌++◌, length, map, vec_capacity}
use Rattle.std.specs.Vec.Iter.{into_iter_items, into_iter_len}
use Rattle.edit_groups.specs.Talks.{group_talk_replies}
use Rattle.edit_groups.proofs.run.into_replies.Given as goal

abbrev pub invariant-loop-talk : goal.invariant-loop-talk
invariant-loop-talk l = record {
  all : l.yielded ++ into_iter_items l.talk-iterator ≡ into_iter_items l.initial.talk-iterator;
  left : into_iter_len l.talk-iterator ≡ length (into_iter_items l.talk-iterator);
  same : map (λ list. list.items) l.lists.items ≡ map group_talk_replies l.yielded;
  room : length (into_iter_items l.initial.talk-iterator) ≤ vec_capacity l.lists;
}
