use Rattle.std.proofs.Common.{refl}
use Rattle.talk_desk.proofs.Said.{on-ok}
use Rattle.talk_desk.proofs.Told.{told-as}
use Rattle.talk_desk.proofs.questions.tell.Goals as goal

pub returns-in-Blocks-clause-ok : goal.returns-in-Blocks-clause-ok
returns-in-Blocks-clause-ok g c = on-ok c.tell_blocks.result (λ said m names. told-as c.args.style.now _ _ m _ _ _ _ _ c.in-Blocks.is (_, said, refl)) c.tell_blocks.ensures.ok

pub returns-in-Since-clause-ok : goal.returns-in-Since-clause-ok
returns-in-Since-clause-ok g c = on-ok c.tell_since.result (λ said m names. told-as c.args.style.now _ _ m _ _ _ _ _ c.in-Since.is (_, said, refl)) c.tell_since.ensures.ok

pub returns-in-Save-clause-ok : goal.returns-in-Save-clause-ok
returns-in-Save-clause-ok g c = on-ok c.tell_saved.result (λ said m names. told-as c.args.style.now _ _ m _ _ _ _ _ c.in-Save.is (_, said, refl)) c.tell_saved.ensures.ok
