use Rattle.summary_tree.proofs.Meets.{spans_more}
use Rattle.summary_tree.proofs.store.FaceStoreValues.clear_leaf.Goals as goal

pub returns-clause-memory : goal.returns-clause-memory
returns-clause-memory c = λ needed h. record { spans = spans_more c.args.self.now.faces c.clear.new.self needed c.clear.ensures.spares h.spans; scratch_has = h.scratch_has }
