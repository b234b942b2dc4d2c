-- They are noted already.
use Rattle.summary_compose.proofs.places.Places.note_once.Goals as goal

pub returns-else-not-noted-clause-table : goal.returns-else-not-noted-clause-table
returns-else-not-noted-clause-table c = c.requires.noted c.if-not-noted.false
