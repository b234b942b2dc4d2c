use Rattle.carriage_model.proofs.Places.{none-held}
use Rattle.carriage_model.proofs.beds.Beds.new.Goals as goal

pub returns-clause-bare : goal.returns-clause-bare
returns-clause-bare c n = none-held _ _ c.in_ok-stacks.stacks.items n c.in_ok-stacks.ensures.bare
