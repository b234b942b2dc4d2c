use Rattle.summary_tree.proofs.Meets.{spans_more}
use Rattle.summary_tree.proofs.store.FaceStoreValues.reserve_slots.Goals as goal

pub returns-in_err-lengthen-clause-memory : goal.returns-in_err-lengthen-clause-memory
returns-in_err-lengthen-clause-memory c = λ needed h. record { spans = spans_more c.args.self.now.faces c.lengthen.new.self needed c.lengthen.ensures.spares h.spans; scratch_has = h.scratch_has }

pub returns-clause-memory : goal.returns-clause-memory
returns-clause-memory c = λ needed h. record { spans = spans_more c.args.self.now.faces c.lengthen.new.self needed c.lengthen.ensures.spares h.spans; scratch_has = h.scratch_has }
