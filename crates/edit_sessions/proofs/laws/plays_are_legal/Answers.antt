use Rattle.std.specs.Prelude.{⊤}
use Rattle.turn_book.proofs.Orders.{play_is_legal}
use Rattle.edit_book.specs.Memory.{first_memory}
use Rattle.edit_sessions.specs.Core.{document_core}
use Rattle.edit_sessions.proofs.CoreLaws.{is_core}
use Rattle.edit_sessions.proofs.laws.plays_are_legal.Goals as goal

pub returns : goal.returns
returns c = λ opening scripts events journal replies p. play_is_legal (document_core opening) (is_core opening) (λ version seen r. ⊤) (first_memory opening) scripts events journal replies p
