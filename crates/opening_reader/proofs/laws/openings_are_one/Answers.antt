use Rattle.opening_reader.proofs.OneOpening.{one-opening}
use Rattle.opening_reader.proofs.laws.openings_are_one.Goals as goal

pub returns : goal.returns
returns c = one-opening
