use Rattle.std.proofs.Common.{◌∷◌, subst}
use Rattle.std.specs.Prelude.{Err}
use Rattle.knit_ports.specs.Pieces.{Heard, Says, SaysFront}
use Rattle.talk_loop.specs.Conversed.{Conversed}
use Rattle.talk_loop.specs.declared.conversation.TalkFault.{TalkFault}
use Rattle.live_talk.specs.Served.{done, mute, short}
use Rattle.live_talk.proofs.Talks.{talk-cut, talk-deaf, talk-done}
use Rattle.live_talk.proofs.talk.talk_on.Goals as goal

pub returns-in-Err-clause-talked : goal.returns-in-Err-clause-talked
returns-in-Err-clause-talked g c = talk-cut (g.D.Desk.asking (g.D.Desk.opening c.args.desk.now)) (g.D.Desk.ends (g.D.Desk.opening c.args.desk.now)) c.args.text.items c.args.ear.now.pending (g.T.Talk.told c.args.talk.now) (g.T.Talk.told c.say_whole.new.talk) (subst (SaysFront (g.T.Talk.told c.args.talk.now) (g.T.Talk.told c.say_whole.new.talk)) c.deref.ensures.value c.in-Err.ensures.err)

pub returns-in-Ok-converse-clause-talked : goal.returns-in-Ok-converse-clause-talked
returns-in-Ok-converse-clause-talked g c =
    talk-done (g.D.Desk.asking (g.D.Desk.opening c.args.desk.now)) (g.D.Desk.ends (g.D.Desk.opening c.args.desk.now)) c.args.text.items c.args.ear.now.pending (g.T.Talk.told c.args.talk.now) (g.T.Talk.told c.say_whole.new.talk) (g.T.Talk.told c.converse.new.talk) _ _ (subst (Says (g.T.Talk.told c.args.talk.now) (g.T.Talk.told c.say_whole.new.talk)) c.deref.ensures.value c.in-Ok.ensures.ok) c.in-Ok-converse.ensures.conversed done

pub returns-in-Err-Hearing-clause-talked : goal.returns-in-Err-Hearing-clause-talked
returns-in-Err-Hearing-clause-talked g c =
    let m = c.in-Err-Hearing.ensures.conversed in
    talk-deaf (g.D.Desk.asking (g.D.Desk.opening c.args.desk.now)) (g.D.Desk.ends (g.D.Desk.opening c.args.desk.now)) c.args.text.items c.args.ear.now.pending (g.T.Talk.told c.args.talk.now) (g.T.Talk.told c.say_whole.new.talk) (g.T.Talk.told c.converse.new.talk) (g.T.Talk.told c.refuse.new.talk) c.refuse.result (subst (Says (g.T.Talk.told c.args.talk.now) (g.T.Talk.told c.say_whole.new.talk)) c.deref.ensures.value c.in-Ok.ensures.ok) (m.0, m.1, subst (λ (f : TalkFault). Conversed (g.D.Desk.asking (g.D.Desk.opening c.args.desk.now)) (g.D.Desk.ends (g.D.Desk.opening c.args.desk.now)) (Heard c.args.ear.now.pending ∷ m.0) (Err f)) c.in-Err-Hearing.field-0-is m.2) c.refuse.ensures.said

pub returns-in-Err-Saying-clause-talked : goal.returns-in-Err-Saying-clause-talked
returns-in-Err-Saying-clause-talked g c =
    let m = c.in-Err-Saying.ensures.conversed in
    talk-done (g.D.Desk.asking (g.D.Desk.opening c.args.desk.now)) (g.D.Desk.ends (g.D.Desk.opening c.args.desk.now)) c.args.text.items c.args.ear.now.pending (g.T.Talk.told c.args.talk.now) (g.T.Talk.told c.say_whole.new.talk) (g.T.Talk.told c.converse.new.talk) _ _ (subst (Says (g.T.Talk.told c.args.talk.now) (g.T.Talk.told c.say_whole.new.talk)) c.deref.ensures.value c.in-Ok.ensures.ok) (m.0, m.1, subst (λ (f : TalkFault). Conversed (g.D.Desk.asking (g.D.Desk.opening c.args.desk.now)) (g.D.Desk.ends (g.D.Desk.opening c.args.desk.now)) (Heard c.args.ear.now.pending ∷ m.0) (Err f)) c.in-Err-Saying.field-0-is m.2) mute

pub returns-clause-talked : goal.returns-clause-talked
returns-clause-talked g c =
    let m = c.in-Err-NoMemory.ensures.conversed in
    talk-done (g.D.Desk.asking (g.D.Desk.opening c.args.desk.now)) (g.D.Desk.ends (g.D.Desk.opening c.args.desk.now)) c.args.text.items c.args.ear.now.pending (g.T.Talk.told c.args.talk.now) (g.T.Talk.told c.say_whole.new.talk) (g.T.Talk.told c.converse.new.talk) _ _ (subst (Says (g.T.Talk.told c.args.talk.now) (g.T.Talk.told c.say_whole.new.talk)) c.deref.ensures.value c.in-Ok.ensures.ok) (m.0, m.1, subst (λ (f : TalkFault). Conversed (g.D.Desk.asking (g.D.Desk.opening c.args.desk.now)) (g.D.Desk.ends (g.D.Desk.opening c.args.desk.now)) (Heard c.args.ear.now.pending ∷ m.0) (Err f)) c.in-Err-NoMemory.field-0-is m.2) short
