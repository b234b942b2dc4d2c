use Rattle.std.specs.Io.KnownBytes.{Keeps}
use Rattle.knit_ports.proofs.writer.write_once.Given as goal

abbrev pub invariant-trying : goal.invariant-trying
invariant-trying g l = Keeps (g.W.Write.contents l.fn.writer) (g.W.Write.contents l.writer)
