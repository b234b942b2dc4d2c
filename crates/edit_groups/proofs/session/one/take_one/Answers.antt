use Rattle.std.proofs.Common.{refl, ap, ◌∙◌}
use Rattle.edit_journal.specs.Documents.{names_given}
use Rattle.edit_book.specs.Replies.{request_of_command}
use Rattle.edit_book.proofs.NamesKept.{asks_blocks, head_kept, of_blocks}
use Rattle.edit_groups.specs.Chunks.{entries_of_chunks}
use Rattle.edit_groups.specs.Shared.{group_book_opening}
use Rattle.edit_groups.proofs.OneTurns.{names_beside}
use Rattle.edit_groups.proofs.OneHeard.{heard_alone, heard_short, heard_turn}
use Rattle.turn_book.specs.Passes.{view_of}
use Rattle.edit_groups.proofs.session.one.take_one.Goals as goal

pub returns-then-not-make_room-clause-heard : goal.returns-then-not-make_room-clause-heard
returns-then-not-make_room-clause-heard g c = λ m had. heard_short (group_book_opening c.args.shared.now) c.args.number m c.args.command.now (view_of c.args.pass.now)

pub turn_one-requires-clause-fits : goal.turn_one-requires-clause-fits
turn_one-requires-clause-fits g c = let o = group_book_opening c.args.shared.now in let journal = entries_of_chunks (view_of c.args.pass.now).seen in
    c.in-Ok.ensures.fits o journal c.requires.setting (ap (names_given o journal) c.make_room.ensures.head ∙ c.requires.names)

pub returns-in-Ok : goal.returns-in-Ok
returns-in-Ok g c = let o = group_book_opening c.args.shared.now in let v = view_of c.args.pass.now in let w = view_of c.turn_one.new.pass in let said = c.args.command.now in record {
  of_this = c.turn_one.ensures.of_this;
  range = (c.turn_one.ensures.turned.first, c.turn_one.ensures.turned.past);
  profile = refl;
  head = c.make_room.ensures.head;
  kept = c.make_room.ensures.kept;
  room = λ teaches. c.if-not-make_room.ensures.room;
  names = names_beside o c.args.number c.in-Ok.asked c.turn_one.result v w c.turn_one.ensures.turned said c.args.learned.now.head c.args.header.now.declared
      (asks_blocks said (request_of_command c.in-Ok.asked) (of_blocks said c.in_default.not-LookHead c.in_default.not-PutHead) c.in-Ok.ensures.kind) c.requires.names;
  heard = λ m had. heard_turn o c.args.number m said c.turn_one.result v w c.in-Ok.asked (c.in-Ok.ensures.asked m (c.make_room.ensures.kept m had)) c.turn_one.ensures.turned;
}

pub returns-in-Err : goal.returns-in-Err
returns-in-Err g c = let o = group_book_opening c.args.shared.now in let v = view_of c.args.pass.now in let said = c.args.command.now in record {
  of_this = c.requires.of_this;
  range = (refl, refl);
  profile = refl;
  head = c.make_room.ensures.head;
  kept = c.make_room.ensures.kept;
  room = λ teaches. c.if-not-make_room.ensures.room;
  names = ap (names_given o (entries_of_chunks v.seen)) (head_kept said c.in-Err.reply c.args.learned.now.head c.in-Err.ensures.untold) ∙ c.requires.names;
  heard = λ m had. heard_alone o c.args.number m said c.in-Err.reply v v (c.in-Err.ensures.asked m (c.make_room.ensures.kept m had)) refl;
}
