use Rattle.knit_base.proofs.Naming.{carrier_of-place}
use Rattle.std.proofs.Common.{Some, None}
use Rattle.knit_base.proofs.declared.Declared.find_bytes.Goals as goal

pub returns-in-Some-clause-found : goal.returns-in-Some-clause-found
returns-in-Some-clause-found c = carrier_of-place _ _ _ _ (Some c.in-Some.at) c.self.view_is c.as_slice.ensures.keys c.in-Some.ensures

pub returns-in-None-clause-found : goal.returns-in-None-clause-found
returns-in-None-clause-found c = carrier_of-place _ _ _ _ None c.self.view_is c.as_slice.ensures.keys c.in-None.ensures
