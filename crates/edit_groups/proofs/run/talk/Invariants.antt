use Rattle.std.proofs.Common.{◌≤◌, length, vec_capacity}
use Rattle.edit_groups.specs.Shared.{group_book_opening}
use Rattle.edit_groups.proofs.SessionRuns.{SessionSoFar}
use Rattle.turn_book.specs.Passes.{IsPassOf, view_of}
use Rattle.edit_groups.proofs.run.talk.Given as goal

abbrev pub invariant-loop-i : goal.invariant-loop-i
invariant-loop-i g l = record {
  of_this : IsPassOf l.shared l.pass;
  room : length l.script ≤ vec_capacity l.replies;
  so_far : SessionSoFar (group_book_opening l.shared) l.script l.i (view_of l.initial.pass) (view_of l.pass) l.session l.replies.items;
}
