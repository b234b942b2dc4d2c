-- Three lines that change nothing are good.
use Rattle.std.proofs.Common.{[], arith}
use Rattle.std.proofs.lemmas.List.Elements.{All-nil}
use Rattle.face_data.specs.Spots.{IsNumbered}
use Rattle.face_data.proofs.Members.{Contains-none}
use Rattle.summary_examples.proofs.PlainLines.{unasked_good}
use Rattle.summary_examples.proofs.loop_tests.long_lists_are_copied_and_read_through.Goals as goal

pub append_through-requires-clause-good : goal.append_through-requires-clause-good
append_through-requires-clause-good t c = record {
  carriers = 1;
  limit = 0;
  known = [];
  few_loops = omega arith;
  numbers = All-nil IsNumbered;
  good = unasked_good 3 [] tt (λ l there. absurd (Contains-none l there));
}
