use Rattle.std.proofs.Common.{refl}
use Rattle.live_talk.proofs.Documents.{if-ok, saved-few}
use Rattle.live_talk.proofs.begin.begin.Goals as goal

pub returns-in-Text : goal.returns-in-Text
returns-in-Text g c = if-ok c.begin_anew.result (λ begins f. f c.args.opening c.in-Text.is refl) c.begin_anew.ensures

pub begin_again-requires-clause-few : goal.begin_again-requires-clause-few
begin_again-requires-clause-few g c κs within = saved-few c.requires.opened.0 c.args.opening.text c.args.opening.kind c.in-Saved.is c.requires.opened.1

pub returns-in-Saved : goal.returns-in-Saved
returns-in-Saved g c = if-ok c.begin_again.result (λ begins f. f c.args.opening c.in-Saved.is refl) c.begin_again.ensures
