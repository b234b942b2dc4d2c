use Rattle.std.proofs.Common.{◌<◌, length, ap, arith}
use Rattle.std.proofs.lemmas.Result.{IfOk-weaker}
use Rattle.knitout_reader.specs.Tokens.{tokens_of}
use Rattle.knitout_reader.proofs.FewCarriers.{few_at_carriers}
use Rattle.knitout_reader.proofs.Marks.{carrier-reading}
use Rattle.knitout_reader.proofs.carrier_line.read_carrier_operation.Goals as goal

pub returns-clause-reads : goal.returns-clause-reads
returns-clause-reads c =
    let some : 0 < length (tokens_of c.args.code.now) = omega (arith, ap length c.in-Some.ensures.split) in
    IfOk-weaker c.carry.result _ _ (λ r is profile. carrier-reading profile _ _ _ r some is) c.carry.ensures.reads

pub returns-clause-in_place : goal.returns-clause-in_place
returns-clause-in_place c few =
    let some : 0 < length (tokens_of c.args.code.now) = omega (arith, ap length c.in-Some.ensures.split) in
    c.carry.ensures.in_place (few_at_carriers c.args.which (tokens_of c.args.code.now) some few)
