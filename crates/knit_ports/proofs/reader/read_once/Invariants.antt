use Rattle.std.specs.Io.KnownBytes.{Keeps}
use Rattle.knit_ports.proofs.reader.read_once.Given as goal

abbrev pub invariant-trying : goal.invariant-trying
invariant-trying g l = Keeps (g.R.Read.remaining l.fn.reader) (g.R.Read.remaining l.reader)
