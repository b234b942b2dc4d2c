use Rattle.turn_book.proofs.Orders.{legal_has_order}
use Rattle.edit_book.specs.Memory.{first_memory}
use Rattle.edit_sessions.specs.Core.{document_core}
use Rattle.edit_sessions.proofs.CoreLaws.{is_core}
use Rattle.edit_sessions.proofs.laws.legal_pairs_are_played.Goals as goal

pub returns : goal.returns
returns c = λ opening scripts journal replies l. legal_has_order (document_core opening) (is_core opening) (first_memory opening) scripts journal replies l
