use Rattle.knitout_writer.proofs.CopiedLines.{shortest-copied}
use Rattle.knitout_writer.proofs.copied_line.is_copied.Goals as goal

pub returns-then-is_shortest_spelling : goal.returns-then-is_shortest_spelling
returns-then-is_shortest_spelling c = λ done. shortest-copied c.args.line.now (c.is_shortest_spelling.ensures c.if-is_shortest_spelling.true) (c.is_plain.ensures c.if-is_plain.true)
