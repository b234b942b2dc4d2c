use Rattle.std.proofs.Common.{◌≡◌, ◌<◌, ℕ, Some, refl, slice_get, subst, sym}
use Rattle.std.proofs.lemmas.Option.{slice_get_read}
use Rattle.talk_desk.proofs.Said.{on-ok}
use Rattle.talk_desk.proofs.Taken.{names-here, number-here, session-here, step-taken}
use Rattle.talk_desk.proofs.host.Host.ask.Goals as goal

pub take_step-requires-clause-number : goal.take_step-requires-clause-number
take_step-requires-clause-number g c κs within =
    let there : slice_get c.args.self.now.talkers.items c.args.session ≡ Some c.in-Some.talker.now = slice_get_read c.args.self.now.talkers.items 64 c.args.session c.in-Some.talker.now (sym c.requires.begun.1.count) c.requires.low c.in-Some.ensures.value in
    let b = c.requires.begun in
    subst (λ (n : ℕ). n < 64) (sym (number-here c.args.self.now b.0 c.args.session c.in-Some.talker.now b.1 there)) c.requires.low

pub take_step-requires-clause-names : goal.take_step-requires-clause-names
take_step-requires-clause-names g c κs within =
    let there : slice_get c.args.self.now.talkers.items c.args.session ≡ Some c.in-Some.talker.now = slice_get_read c.args.self.now.talkers.items 64 c.args.session c.in-Some.talker.now (sym c.requires.begun.1.count) c.requires.low c.in-Some.ensures.value in
    let b = c.requires.begun in
    names-here c.args.self.now b.0 c.args.session c.in-Some.talker.now b.1 there

pub returns-clause-said : goal.returns-clause-said
returns-clause-said g c =
    let there : slice_get c.args.self.now.talkers.items c.args.session ≡ Some c.in-Some.talker.now = slice_get_read c.args.self.now.talkers.items 64 c.args.session c.in-Some.talker.now (sym c.requires.begun.1.count) c.requires.low c.in-Some.ensures.value in
    on-ok c.take_step.result
    (λ f s at.
    step-taken _ c.args.self.now.document.style s c.args.session c.args.self.now _ c.in-Some.talker.now c.take_step.new.talker at c.requires.low there c.take_step.ensures.document c.take_step.ensures.opening refl _ _
    c.args.step.now (f (s.point.memories c.args.session) (session-here c.args.self.now s c.args.session c.in-Some.talker.now at there))) c.take_step.ensures.said
