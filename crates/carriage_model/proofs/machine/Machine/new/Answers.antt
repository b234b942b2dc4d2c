use Rattle.std.proofs.Common.{refl}
use Rattle.std.proofs.lemmas.List.{get_or-replicate}
use Rattle.carriage_model.proofs.machine.Machine.new.Goals as goal

pub returns-clause-empty : goal.returns-clause-empty
returns-clause-empty c = record {
  rack = refl;
  ins = refl;
  hook = refl;
  lasts = λ keeps d fits. get_or-replicate 64 d.0 _ _ fits;
  stacks = c.in_ok-new.ensures.bare;
}
