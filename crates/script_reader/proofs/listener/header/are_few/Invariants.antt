use Rattle.std.proofs.Common.{◌≡◌, ◌+◌, length}
use Rattle.knitout_reader.specs.Tokens.{tokens_of}
use Rattle.script_reader.proofs.listener.header.are_few.Given as goal

abbrev pub invariant-loop-after : goal.invariant-loop-after
invariant-loop-after l = length (tokens_of l.rest) + 64 ≡ length (tokens_of l.names) + l.room

abbrev pub decreases-loop-after : goal.decreases-loop-after
decreases-loop-after l = length l.rest
