use Rattle.std.proofs.Common.{refl, subst}
use Rattle.talk_desk.specs.Hosts.{IsStepSaid}
use Rattle.talk_desk.specs.declared.document.Style.{Style}
use Rattle.talk_desk.proofs.Said.{on-ok, step-said}
use Rattle.talk_desk.proofs.steps.take_step.Goals as goal

pub returns-clause-said : goal.returns-clause-said
returns-clause-said g c =
    on-ok c.say_reply.result
    (λ said m at.
    subst (λ (st : Style). IsStepSaid st.json m c.args.step.now c.args.document.now c.say_reply.new.document c.args.talker.now c.say_reply.new.talker c.args.out.now.items c.say_reply.new.out.items) c.step-reply.ensures.style
    (step-said c.step-reply.new.self.style.json m c.args.step.now c.args.document.now c.step-reply.new.self c.say_reply.new.document c.args.talker.now _ c.say_reply.new.talker _ _ c.step-reply.result c.step-reply.ensures.opening c.step-reply.ensures.number refl
    (c.step-reply.ensures.answered m at) c.say_reply.ensures.known c.say_reply.ensures.session c.say_reply.ensures.counted said)) c.say_reply.ensures.said
