use Rattle.summary_tree.specs.declared.faces.FaceList.TheVariants.{Checks, Names, Changes, Segs, Lasts}
use Rattle.summary_tree.proofs.faces.Pools.give.Goals as goal

pub give-requires : goal.give-requires
give-requires c = record { out = c.requires.of_pools Checks }

pub give-requires-2 : goal.give-requires-2
give-requires-2 c = record { out = c.requires.of_pools Names }

pub give-requires-3 : goal.give-requires-3
give-requires-3 c = record { out = c.requires.of_pools Changes }

pub give-requires-4 : goal.give-requires-4
give-requires-4 c = record { out = c.requires.of_pools Segs }

pub give-requires-5 : goal.give-requires-5
give-requires-5 c = record { out = c.requires.of_pools Lasts }
