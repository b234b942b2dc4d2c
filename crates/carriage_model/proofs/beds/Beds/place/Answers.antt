use Rattle.std.proofs.Common.{arith}
use Rattle.std.proofs.lemmas.Int.{ints}
use Rattle.carriage_model.proofs.Places.{place-within}
use Rattle.carriage_model.proofs.beds.Beds.place.Goals as goal

pub returns-clause-within : goal.returns-clause-within
returns-clause-within c =
    omega (arith, ints, c.first_of_bed.ensures, c.args.self.now.full, place-within c.args.self.now.low c.args.self.now.width c.args.n c.requires)
