use Rattle.std.proofs.Common.{refl, ◌∙◌}
use Rattle.carriage_model.proofs.BedChanges.{set-holds, read-stack}
use Rattle.carriage_model.proofs.beds.Beds.take.Goals as goal

pub returns-clause-loops : goal.returns-clause-loops
returns-clause-loops c = c.replace.ensures.value ∙ read-stack c.args.self.now _ _ _ c.requires c.place-place.ensures.is c.index_mut.ensures.value

pub returns-clause-left : goal.returns-clause-left
returns-clause-left c = set-holds _ _ _ _ _ _ c.requires c.place-place.ensures.is refl refl refl (c.replace.ensures.after ∙ c.new.ensures)
