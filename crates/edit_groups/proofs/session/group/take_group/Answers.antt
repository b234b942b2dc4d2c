use Rattle.std.proofs.Common.{refl, ap, ◌∙◌, arith}
use Rattle.edit_journal.specs.Documents.{names_given}
use Rattle.edit_groups.specs.Chunks.{entries_of_chunks}
use Rattle.edit_groups.specs.Shared.{group_book_opening}
use Rattle.edit_groups.proofs.GroupTold.{group_heard, group_short, lawful_group}
use Rattle.turn_book.specs.Passes.{view_of}
use Rattle.edit_groups.proofs.session.group.take_group.Goals as goal

pub returns-then-not-make_room-clause-heard : goal.returns-then-not-make_room-clause-heard
returns-then-not-make_room-clause-heard g c = λ m had.
    group_short (group_book_opening c.args.shared.now) c.args.number m c.args.commands.now c.no_memory.result (view_of c.args.pass.now) (view_of c.args.pass.now) c.no_memory.ensures refl

pub asked_edits-requires-clause-edits : goal.asked_edits-requires-clause-edits
asked_edits-requires-clause-edits g c = (lawful_group c.args.commands.now c.requires.step).edits

pub asked_edits-requires-clause-few : goal.asked_edits-requires-clause-few
asked_edits-requires-clause-few g c = (lawful_group c.args.commands.now c.requires.step).few

pub turn-requires-clause-fits : goal.turn-requires-clause-fits
turn-requires-clause-fits g c =
    let o = group_book_opening c.args.shared.now in let journal = entries_of_chunks (view_of c.args.pass.now).seen in
    let lawful = lawful_group c.args.commands.now c.requires.step in let some = lawful.some in let few = lawful.few in let count = c.in-Ok.ensures.count in (
      omega (arith, some, count),
      omega (arith, few, count),
      c.in-Ok.ensures.fit o journal c.requires.setting (ap (names_given o journal) c.make_room.ensures.head ∙ c.requires.names),
    )

pub returns-in-Ok : goal.returns-in-Ok
returns-in-Ok g c = let v = view_of c.args.pass.now in let w = view_of c.turn.new.pass in record {
  of_this = c.turn.ensures.of_this;
  range = (ap (λ x. x.first) c.turn.ensures.turned.after, ap (λ x. x.past) c.turn.ensures.turned.after);
  head = c.make_room.ensures.head;
  kept = c.make_room.ensures.kept;
  room = λ version from brief is. c.if-not-make_room.ensures.room;
  heard = λ m had. group_heard (group_book_opening c.args.shared.now) c.args.number m c.args.commands.now c.in-Ok.edits c.turn.result _ v w (lawful_group c.args.commands.now c.requires.step)
      (c.in-Ok.ensures.asked m (c.make_room.ensures.kept m had)) c.turn.ensures.turned;
}

pub returns-in-Err-clause-heard : goal.returns-in-Err-clause-heard
returns-in-Err-clause-heard g c = λ m had.
    group_short (group_book_opening c.args.shared.now) c.args.number m c.args.commands.now c.no_memory-in-Err.result (view_of c.args.pass.now) (view_of c.args.pass.now) c.no_memory-in-Err.ensures refl
