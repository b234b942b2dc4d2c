use Rattle.std.proofs.Common.{codes, arith, rules}
use Rattle.std.proofs.lemmas.Slice.Eq.{text_from_reads}
use Rattle.knitout_reader.proofs.words.operation_of.Goals as goal

pub returns-in-releasehook : goal.returns-in-releasehook
returns-in-releasehook c = text_from_reads c.args.word.now (codes "releasehook") (omega arith) (search rules)
