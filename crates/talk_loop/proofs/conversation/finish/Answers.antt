use Rattle.std.proofs.Common.{subst}
use Rattle.knit_ports.specs.Pieces.{Says, SaysFront}
use Rattle.talk_loop.proofs.conversation.finish.Goals as goal

pub returns-in-Ok-say_whole : goal.returns-in-Ok-say_whole
returns-in-Ok-say_whole g c = record {
  finished = λ lines as_ rest stands counted given kept.
      let l = c.in-Ok.ensures.last lines as_ rest stands counted given kept in
      record { text = c.append_last.new.out.items; more = l.0; last = l.1; said = subst (Says (g.T.Talk.told c.args.talk.now) (g.T.Talk.told c.say_whole.new.talk)) c.deref.ensures.value c.in-Ok-say_whole.ensures.ok };
  cause = c.in-Ok-say_whole.ensures.calm;
}

pub returns-in-Err : goal.returns-in-Err
returns-in-Err g c = record {
  finished = λ lines as_ rest stands counted given kept.
      let l = c.in-Ok.ensures.last lines as_ rest stands counted given kept in
      record { text = c.append_last.new.out.items; more = l.0; last = l.1; said = subst (SaysFront (g.T.Talk.told c.args.talk.now) (g.T.Talk.told c.say_whole.new.talk)) c.deref.ensures.value c.in-Err.ensures.err };
  cause = c.in-Err.ensures.cause;
}
