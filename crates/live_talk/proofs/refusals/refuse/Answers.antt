use Rattle.std.proofs.Common.{◌≡◌, ◌∙◌, ◌++◌, List, ℕ, [], ap, refl, subst}
use Rattle.knit_ports.specs.Pieces.{Says, SaysFront}
use Rattle.verdict_report.specs.Refusals.{refusal_text}
use Rattle.live_talk.specs.Begins.{failed, fine, short}
use Rattle.live_talk.specs.Served.{front, nothing, whole}
use Rattle.live_talk.proofs.Ends.{goes-none}
use Rattle.live_talk.proofs.refusals.refuse.Goals as goal

pub returns-in_default-clause-said : goal.returns-in_default-clause-said
returns-in_default-clause-said g c = ([], goes-none (g.T.Talk.told c.args.talk.now), nothing refl)

pub returns-in_default-clause-cause : goal.returns-in_default-clause-cause
returns-in_default-clause-cause g c = short refl

pub returns-in-Ok-say_whole-clause-said : goal.returns-in-Ok-say_whole-clause-said
returns-in-Ok-say_whole-clause-said g c =
    let text : c.deref.result.now ≡ refusal_text c.args.refusal = c.deref.ensures.value ∙ c.in-Ok.ensures.ok ∙ ap (λ (l : List ℕ). l ++ refusal_text c.args.refusal) c.new-out.ensures.items in
    let s = subst (Says (g.T.Talk.told c.args.talk.now) (g.T.Talk.told c.say_whole.new.talk)) text c.in-Ok-say_whole.ensures.ok in
    (s.0, s.1, whole s.2 s.3)

pub returns-in-Ok-say_whole-clause-cause : goal.returns-in-Ok-say_whole-clause-cause
returns-in-Ok-say_whole-clause-cause g c = fine c.in-Ok-say_whole.ensures.calm

pub returns-clause-said : goal.returns-clause-said
returns-clause-said g c =
    let text : c.deref.result.now ≡ refusal_text c.args.refusal = c.deref.ensures.value ∙ c.in-Ok.ensures.ok ∙ ap (λ (l : List ℕ). l ++ refusal_text c.args.refusal) c.new-out.ensures.items in
    let s = subst (SaysFront (g.T.Talk.told c.args.talk.now) (g.T.Talk.told c.say_whole.new.talk)) text c.in-Err.ensures.err in
    (s.2.0, s.2.1, front s.0 s.2.2 s.2.3)

pub returns-clause-cause : goal.returns-clause-cause
returns-clause-cause g c = failed c.in-Err.ensures.cause
