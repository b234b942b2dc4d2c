use Rattle.std.proofs.Common.{refl}
use Rattle.edit_sessions.proofs.Takes.{taken_short, untaken_alone}
use Rattle.edit_sessions.proofs.take.do_command.Goals as goal
use Rattle.edit_sessions.proofs.take.do_command.Goals.{then-make_room, else-make_room}

pub returns-clause-taken : goal.returns-clause-taken
returns-clause-taken g c m remembers = elim c.if-make_room.branch [
  | then-make_room w ↦ rw (w.reply-is, w.pass-is) (w.take-reply.ensures.taken m (c.make_room.ensures.kept m remembers))
  | else-make_room w ↦ rw (w.reply-is, w.pass-is) (taken_short _ _ _ _ _)
]

pub returns-clause-untaken : goal.returns-clause-untaken
returns-clause-untaken g c m remembers = elim c.if-make_room.branch [
  | then-make_room w ↦ rw w.pass-is (w.take-reply.ensures.untaken m (c.make_room.ensures.kept m remembers))
  | else-make_room w ↦ rw w.pass-is (untaken_alone _ _ _ refl)
]
