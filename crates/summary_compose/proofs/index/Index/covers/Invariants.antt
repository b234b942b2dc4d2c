use Rattle.std.specs.List.{list_any}
use Rattle.summary_compose.specs.Tables.{note_suits}
use Rattle.summary_compose.proofs.Tables.{Walks}
use Rattle.summary_compose.proofs.index.Index.covers.Given as goal

abbrev pub invariant-loop-place : goal.invariant-loop-place
invariant-loop-place l = Walks l.self-inside.links.items l.n l.len l.most l.limit l.place (list_any (note_suits l.n l.len l.most) l.self.notes)

abbrev pub decreases-loop-place : goal.decreases-loop-place
decreases-loop-place l = l.limit
