-- More spare spans and more room of the scratch keep the room that there was.
use Rattle.summary_tree.proofs.Meets.{rooms_more}
use Rattle.summary_tree.proofs.store.FaceStoreValues.reserve.Goals as goal

pub returns-clause-memory : goal.returns-clause-memory
returns-clause-memory c = λ needed. rooms_more c.args.self.now.faces c.reserve_lists.new.faces c.args.self.now.scratch.room c.reserve.new.self.room needed c.reserve_lists.ensures.spares c.reserve.ensures.keeps
