use Rattle.std.proofs.Common.{arith, rules}
use Rattle.knit_ports.proofs.HeardLines.{kept-of}
use Rattle.knit_ports.proofs.ear.keep.Goals as goal

pub returns-clause-kept : goal.returns-clause-kept
returns-clause-kept c =
    kept-of c.args.line.now.items c.args.bytes.now c.extend_from_slice.new.self.items _ c.min.result c.requires.short
    (omega (arith, c.len-room.ensures)) c.min.ensures (search rules)
