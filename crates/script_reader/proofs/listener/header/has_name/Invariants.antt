use Rattle.std.proofs.Common.{◌≡◌, length}
use Rattle.std.specs.List.{list_any}
use Rattle.std.specs.Str.{bytes_eq}
use Rattle.knitout_reader.specs.Tokens.{tokens_of}
use Rattle.script_reader.proofs.listener.header.has_name.Given as goal

abbrev pub invariant-loop-other : goal.invariant-loop-other
invariant-loop-other l = list_any (bytes_eq l.name) (tokens_of l.rest) ≡ list_any (bytes_eq l.name) (tokens_of l.names)

abbrev pub decreases-loop-other : goal.decreases-loop-other
decreases-loop-other l = length l.rest
