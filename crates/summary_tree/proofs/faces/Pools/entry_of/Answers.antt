use Rattle.summary_tree.specs.declared.faces.FaceList.TheVariants.{Checks, Names, Changes, Segs, Lasts}
use Rattle.summary_tree.proofs.faces.Pools.entry_of.Goals as goal

pub put_anew-requires-clause-spare : goal.put_anew-requires-clause-spare
put_anew-requires-clause-spare c = c.requires.spare Checks

pub put_anew-requires-2-clause-spare : goal.put_anew-requires-2-clause-spare
put_anew-requires-2-clause-spare c = c.requires.spare Names

pub put_anew-requires-3-clause-spare : goal.put_anew-requires-3-clause-spare
put_anew-requires-3-clause-spare c = c.requires.spare Changes

pub put_anew-requires-4-clause-spare : goal.put_anew-requires-4-clause-spare
put_anew-requires-4-clause-spare c = c.requires.spare Segs

pub put_anew-requires-5-clause-spare : goal.put_anew-requires-5-clause-spare
put_anew-requires-5-clause-spare c = c.requires.spare Lasts
