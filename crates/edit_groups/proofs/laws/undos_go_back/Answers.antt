use Rattle.edit_groups.proofs.GoesBack.{goes_back}
use Rattle.edit_groups.proofs.laws.undos_go_back.Goals as goal

pub returns : goal.returns
returns c = goes_back
