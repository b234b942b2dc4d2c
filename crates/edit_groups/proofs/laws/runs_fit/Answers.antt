use Rattle.std.proofs.Common.{◌++◌, List, subst}
use Rattle.edit_journal.specs.declared.edit.Entry.{Entry}
use Rattle.edit_journal.specs.Documents.{document_opened}
use Rattle.edit_groups.specs.Laws.{AreFitting}
use Rattle.edit_groups.proofs.RunFits.{fit_front, run_fits}
use Rattle.edit_groups.proofs.laws.runs_fit.Goals as goal

pub returns : goal.returns
returns c = λ opening scripts chunks replies front back run is. fit_front (document_opened opening) 1 front back (subst (AreFitting (document_opened opening) 1) is (run_fits opening scripts chunks replies run))
