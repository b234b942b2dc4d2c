use Rattle.std.proofs.Common.{◌≡◌, ◌++◌, length}
use Rattle.knitout_reader.specs.Tokens.{tokens_of}
use Rattle.knitout_writer.specs.Canonical.{each_spaced, tokens_spaced}
use Rattle.knitout_writer.proofs.line.append_tokens.Given as goal

abbrev pub invariant-loop-token : goal.invariant-loop-token
invariant-loop-token l = l.out.items ++ each_spaced (tokens_of l.rest) ≡ l.fn.out.items ++ tokens_spaced (tokens_of l.code)

abbrev pub decreases-loop-token : goal.decreases-loop-token
decreases-loop-token l = length l.rest
