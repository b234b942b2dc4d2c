-- The lists make up the items.
use Rattle.std.proofs.Common.{arith}
use Rattle.summary_compose.proofs.Counts.{packed_items}
use Rattle.summary_compose.proofs.charging.charge.Goals as goal

pub returns : goal.returns
returns g c =
    omega (
      arith,
      packed_items c.args.face.now c.requires,
      c.charge_each.ensures,
      c.charge_each-2.ensures,
      c.charge_each-3.ensures,
      c.charge_each-4.ensures,
      c.charge_each-5.ensures,
      c.charge_ending.ensures,
    )
