use Rattle.std.proofs.Common.{refl}
use Rattle.carriage_model.proofs.BedChanges.{stacks_exchanged}
use Rattle.carriage_model.proofs.beds.Beds.exchange.Goals as goal

pub returns : goal.returns
returns c = stacks_exchanged _ _ _ _ _ _ c.requires.from c.requires.to c.place-from.ensures.is c.place-to.ensures.is refl refl c.swap.ensures.items
