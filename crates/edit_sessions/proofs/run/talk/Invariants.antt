use Rattle.std.proofs.Common.{◌≤◌, length, vec_capacity}
use Rattle.edit_sessions.specs.Shared.{shared_opening}
use Rattle.edit_sessions.proofs.Talked.{SessionSoFar}
use Rattle.turn_book.specs.Passes.{IsPassOf, view_of}
use Rattle.edit_sessions.proofs.run.talk.Given as goal

abbrev pub invariant-loop-i : goal.invariant-loop-i
invariant-loop-i g l = record {
  of_this : IsPassOf l.shared l.pass;
  room : length l.script ≤ vec_capacity l.replies;
  so_far : SessionSoFar (shared_opening l.shared) l.script l.i (view_of l.initial.pass) (view_of l.pass) l.session l.replies.items;
}
