use Rattle.std.proofs.Common.{◌≡◌, length}
use Rattle.knitout_reader.specs.Usual.{ArePairNumbers}
use Rattle.knitout_reader.proofs.byte_names.pair_numbers.Given as goal

abbrev pub invariant-loop-pair : goal.invariant-loop-pair
invariant-loop-pair l = (length l.pairs ≡ 100) × ArePairNumbers l.declared l.pairs
