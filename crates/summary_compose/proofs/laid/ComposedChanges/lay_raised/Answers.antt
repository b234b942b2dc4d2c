-- The parts stay, and so they make up the list with its lines raised.
use Rattle.std.proofs.Common.{List, map, rules, subst, sym}
use Rattle.face_data.specs.declared.face.Change.{Change}
use Rattle.face_data.specs.declared.face.Seg.{Seg}
use Rattle.face_data.specs.View.{ArePacked}
use Rattle.summary_compose.specs.Changes.{raised_seg}
use Rattle.summary_compose.proofs.RaisedChanges.{packed_raised}
use Rattle.summary_compose.proofs.laid.ComposedChanges.lay_raised.Goals as goal

pub invariant_of-self : goal.invariant_of-self
invariant_of-self c =
    let raised = map (raised_seg c.args.lines) c.args.segs.now in
    subst (λ (segs : List Seg). ArePacked segs c.append.new.list.items) (sym (search rules))
    (subst (λ (changes : List Change). ArePacked raised changes) (sym (search rules)) (packed_raised c.args.lines c.args.segs.now c.args.changes.now c.requires.packed))
