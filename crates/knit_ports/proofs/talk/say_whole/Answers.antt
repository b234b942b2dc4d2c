use Rattle.knit_ports.proofs.SaidPieces.{said-more}
use Rattle.knit_ports.proofs.talk.say_whole.Goals as goal

pub saying-preserved : goal.saying-preserved
saying-preserved g c = said-more _ _ _ _ _ _ _ _ _ c.saying.invariant c.in_ok-done.ensures.bound c.in_ok-done.ensures.told c.in_ok-done.ensures.calm
