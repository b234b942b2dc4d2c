use Rattle.std.proofs.Common.{◌+◌, ◌≤◌, List, [], sym, ap, subst, arith}
use Rattle.face_data.specs.Summaries.{Summary}
use Rattle.face_data.specs.View.{summary_of}
use Rattle.tree_shape.specs.Fewest.{list_inserted}
use Rattle.summary_tree.specs.Leaves.{Leaf, AreSound, leaf_line_count}
use Rattle.tree_examples.proofs.PlainLeaves.{lines_inserted, sound_with_face}
use Rattle.tree_examples.proofs.summary_tests.add.Goals as goal

pub insert-requires-clause-sound : goal.insert-requires-clause-sound
insert-requires-clause-sound g c =
    let at = c.args.at in
    let before = c.args.tree.now.leaves in
    let here = sound_with_face at c.args.lines _ (summary_of c.plain-face.result) c.new.result before c.plain-face.ensures.summary c.new.ensures c.len-len.ensures.sound (omega (arith, c.len-len.ensures.len, c.if-len-ge65536.false)) c.requires in
    subst (λ (xs : List Leaf). AreSound (list_inserted at (summary_of c.plain-face.result, c.new.result) xs)) (sym c.reserve.ensures.same.leaves) here

pub returns : goal.returns
returns g c =
    let leaf : Leaf = (summary_of c.plain-face.result, c.new.result) in
    omega (arith, ap leaf_line_count c.insert.ensures.leaves, lines_inserted c.args.at leaf c.reserve.new.self.leaves, ap leaf_line_count c.reserve.ensures.same.leaves, ap (λ (face : Summary). face.lines) c.plain-face.ensures.summary)
