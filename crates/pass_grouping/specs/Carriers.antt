-- The carriers of a pass, wherever they lie.
use Rattle.std.specs.Prelude.{List, []}
use Rattle.knit_base.specs.declared.yarns.CarrierNo.{CarrierNo}
use Rattle.pass_grouping.specs.declared.fact.HeldYarns.{HeldYarns}
use Rattle.pass_grouping.specs.declared.fact.HeldYarns.TheVariants.{Nothing, One, More}

abbrev pub carriers_in : HeldYarns → List CarrierNo
carriers_in Nothing = []
carriers_in (One one) = one
carriers_in (More yarns) = yarns.value
