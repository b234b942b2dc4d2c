use Rattle.std.proofs.Common.{◌≡◌, Some, refl, slice_get, sym}
use Rattle.std.proofs.lemmas.Option.{slice_get_read}
use Rattle.talk_desk.proofs.Said.{on-ok}
use Rattle.talk_desk.proofs.Taken.{session-here, step-taken}
use Rattle.talk_desk.proofs.host.Host.refuse_long.Goals as goal

pub returns-clause-said : goal.returns-clause-said
returns-clause-said g c =
    let there : slice_get c.args.self.now.talkers.items c.args.session ≡ Some c.in-Some.talker.now = slice_get_read c.args.self.now.talkers.items 64 c.args.session c.in-Some.talker.now (sym c.requires.begun.1.count) c.requires.low c.in-Some.ensures.value in
    on-ok c.take_long.result
    (λ f s text at long.
    step-taken _ c.args.self.now.document.style s c.args.session c.args.self.now _ c.in-Some.talker.now c.take_long.new.talker at c.requires.low there c.take_long.ensures.document c.take_long.ensures.opening refl _ _
    _ (f (s.point.memories c.args.session) text (session-here c.args.self.now s c.args.session c.in-Some.talker.now at there) long)) c.take_long.ensures.said
