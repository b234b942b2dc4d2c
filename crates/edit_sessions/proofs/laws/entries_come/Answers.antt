use Rattle.edit_sessions.proofs.Comings.{entries_come}
use Rattle.edit_sessions.proofs.laws.entries_come.Goals as goal

pub returns : goal.returns
returns c = λ opening scripts journal replies legal limits. entries_come opening scripts journal replies legal limits
