use Rattle.std.proofs.Common.{refl}
use Rattle.std.proofs.lemmas.Result.{on_ok_weaker}
use Rattle.knitout_writer.proofs.WrittenFiles.{written-more}
use Rattle.knitout_writer.proofs.text_writer.TextWriterFileWork.take_body.Goals as goal

pub returns-clause-ok : goal.returns-clause-ok
returns-clause-ok c = on_ok_weaker c.append_lines.result (λ wrote start lines count so_far. written-more _ _ _ _ _ _ so_far refl wrote) c.append_lines.ensures.text
