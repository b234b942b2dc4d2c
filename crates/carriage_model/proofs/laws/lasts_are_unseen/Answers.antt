use Rattle.carriage_model.proofs.UnseenLasts.{told_alike}
use Rattle.carriage_model.proofs.laws.lasts_are_unseen.Goals as goal

pub returns : goal.returns
returns c = told_alike
