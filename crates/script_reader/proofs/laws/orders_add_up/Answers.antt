use Rattle.script_reader.proofs.Hearings.{orders-more}
use Rattle.script_reader.proofs.laws.orders_add_up.Goals as goal

pub returns : goal.returns
returns c = orders-more
