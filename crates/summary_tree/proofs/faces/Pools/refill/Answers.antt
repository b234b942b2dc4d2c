use Rattle.summary_tree.specs.declared.faces.FaceList.TheVariants.{Checks, Names, Changes, Segs, Lasts}
use Rattle.summary_tree.proofs.FaceTables.{packed_as}
use Rattle.summary_tree.proofs.faces.Pools.refill.Goals as goal

pub refill-requires-clause-spare : goal.refill-requires-clause-spare
refill-requires-clause-spare c = c.requires.spare Checks

pub refill-requires-clause-of_pool : goal.refill-requires-clause-of_pool
refill-requires-clause-of_pool c = c.requires.of_pools Checks

pub refill-requires-2-clause-spare : goal.refill-requires-2-clause-spare
refill-requires-2-clause-spare c = c.requires.spare Names

pub refill-requires-2-clause-of_pool : goal.refill-requires-2-clause-of_pool
refill-requires-2-clause-of_pool c = c.requires.of_pools Names

pub refill-requires-3-clause-spare : goal.refill-requires-3-clause-spare
refill-requires-3-clause-spare c = c.requires.spare Changes

pub refill-requires-3-clause-of_pool : goal.refill-requires-3-clause-of_pool
refill-requires-3-clause-of_pool c = c.requires.of_pools Changes

pub refill-requires-4-clause-spare : goal.refill-requires-4-clause-spare
refill-requires-4-clause-spare c = c.requires.spare Segs

pub refill-requires-4-clause-of_pool : goal.refill-requires-4-clause-of_pool
refill-requires-4-clause-of_pool c = c.requires.of_pools Segs

pub refill-requires-5-clause-spare : goal.refill-requires-5-clause-spare
refill-requires-5-clause-spare c = c.requires.spare Lasts

pub refill-requires-5-clause-of_pool : goal.refill-requires-5-clause-of_pool
refill-requires-5-clause-of_pool c = c.requires.of_pools Lasts

pub returns-clause-packed : goal.returns-clause-packed
returns-clause-packed c = packed_as _ c.args.face.now c.refill.ensures.here c.refill-2.ensures.here c.refill-3.ensures.here c.refill-4.ensures.here c.refill-5.ensures.here c.head_of-entry.ensures c.requires.packed

pub returns-clause-back : goal.returns-clause-back
returns-clause-back c Checks = c.refill.ensures.back
returns-clause-back c Names = c.refill-2.ensures.back
returns-clause-back c Changes = c.refill-3.ensures.back
returns-clause-back c Segs = c.refill-4.ensures.back
returns-clause-back c Lasts = c.refill-5.ensures.back

pub returns-clause-out : goal.returns-clause-out
returns-clause-out c Checks = c.refill.ensures.out
returns-clause-out c Names = c.refill-2.ensures.out
returns-clause-out c Changes = c.refill-3.ensures.out
returns-clause-out c Segs = c.refill-4.ensures.out
returns-clause-out c Lasts = c.refill-5.ensures.out
