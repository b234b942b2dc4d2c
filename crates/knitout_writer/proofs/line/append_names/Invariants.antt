use Rattle.std.proofs.Common.{◌≡◌, ◌++◌, drop}
use Rattle.knitout_writer.specs.Canonical.{each_spaced, carrier_names}
use Rattle.knitout_writer.proofs.line.append_names.Given as goal

abbrev pub invariant-loop-carrier : goal.invariant-loop-carrier
invariant-loop-carrier l = l.out.items ++ each_spaced (carrier_names l.declared (drop l.carrier-index l.carrier-items)) ≡ l.fn.out.items ++ each_spaced (carrier_names l.declared l.carriers)
