use Rattle.std.proofs.Common.{◌≡◌, ◌≤◌, ◌++◌, length}
use Rattle.knitout_reader.specs.Tokens.{tokens_of}
use Rattle.knitout_reader.proofs.head.read_names.Given as goal

abbrev pub invariant-loop-name : goal.invariant-loop-name
invariant-loop-name l = record {
  so_far : l.declared ++ tokens_of l.rest ≡ tokens_of l.text;
  few : length l.declared ≤ 64;
}

abbrev pub decreases-loop-name : goal.decreases-loop-name
decreases-loop-name l = length l.rest
