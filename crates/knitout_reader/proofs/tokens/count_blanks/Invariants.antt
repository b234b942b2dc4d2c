use Rattle.std.proofs.Common.{◌≡◌, take, All, true}
use Rattle.knitout_reader.specs.Tokens.{is_blank}
use Rattle.knitout_reader.proofs.tokens.count_blanks.Given as goal

abbrev pub invariant-loop-at : goal.invariant-loop-at
invariant-loop-at l = All (λ byte. is_blank byte ≡ true) (take l.at l.text)
