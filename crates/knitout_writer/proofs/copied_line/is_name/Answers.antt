use Rattle.std.proofs.Common.{arith}
use Rattle.std.proofs.lemmas.Bool.{eqb-true}
use Rattle.knitout_writer.proofs.CopiedLines.{names-one}
use Rattle.knitout_writer.proofs.copied_line.is_name.Goals as goal

pub returns : goal.returns
returns c = λ all. names-one c.args.text.now c.name_len-len.result (omega (arith, c.if-len-eq0.false)) (eqb-true _ _ all) c.name_len-len.ensures.name
