use Rattle.std.proofs.Common.{◌≡◌, length}
use Rattle.knitout_reader.specs.Tokens.{tokens_of}
use Rattle.knitout_reader.specs.Head.{has_name_twice}
use Rattle.script_reader.proofs.listener.header.has_name_twice.Given as goal

abbrev pub invariant-loop-name : goal.invariant-loop-name
invariant-loop-name l = has_name_twice (tokens_of l.rest) ≡ has_name_twice (tokens_of l.names)

abbrev pub decreases-loop-name : goal.decreases-loop-name
decreases-loop-name l = length l.rest
