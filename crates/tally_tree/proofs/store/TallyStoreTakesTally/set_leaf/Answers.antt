use Rattle.tally_tree.proofs.MetRooms.{fewer_met}
use Rattle.tally_tree.proofs.store.TallyStoreTakesTally.set_leaf.Goals as goal

pub returns-clause-memory : goal.returns-clause-memory
returns-clause-memory c r rest within met = fewer_met c.args.self.now.spares r rest met
