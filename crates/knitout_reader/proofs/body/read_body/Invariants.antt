use Rattle.std.proofs.Common.{length}
use Rattle.knit_base.specs.Lawful.{IsLawfulRead}
use Rattle.knitout_reader.specs.Reading.{ReadsAs}
use Rattle.knitout_reader.proofs.BodyReadings.{ReadSoFar}
use Rattle.knitout_reader.proofs.body.read_body.Given as goal

abbrev pub invariant-loop-i : goal.invariant-loop-i
invariant-loop-i l = ReadSoFar (λ line r. ReadsAs l.profile l.declared line r) (IsLawfulRead l.profile (length l.declared)) l.lines l.fn.from l.i l.reads
