use Rattle.std.proofs.Common.{◌≡◌, length}
use Rattle.knitout_reader.specs.Usual.{AreByteNumbers}
use Rattle.knitout_reader.proofs.byte_names.byte_numbers.Given as goal

abbrev pub invariant-loop-byte : goal.invariant-loop-byte
invariant-loop-byte l = (length l.numbers ≡ 256) × AreByteNumbers l.declared l.numbers
