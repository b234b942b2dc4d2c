use Rattle.std.proofs.Common.{refl}
use Rattle.talk_desk.proofs.Said.{on-ok, step-said}
use Rattle.talk_desk.proofs.steps.take_lost.Goals as goal

pub returns-clause-said : goal.returns-clause-said
returns-clause-said g c =
    on-ok c.say_reply.result
    (λ said m lost at adds.
    step-said c.args.document.now.style.json m lost c.args.document.now c.args.document.now c.say_reply.new.document c.args.talker.now _ c.say_reply.new.talker _ _ c.lose_step-reply.result refl c.lose_step-reply.ensures.number refl
    (c.lose_step-reply.ensures.answered _ _ m lost at adds) c.say_reply.ensures.known c.say_reply.ensures.session c.say_reply.ensures.counted said) c.say_reply.ensures.said
