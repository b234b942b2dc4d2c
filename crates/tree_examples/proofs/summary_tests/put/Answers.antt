use Rattle.std.proofs.Common.{◌+◌, ◌≤◌, List, [], sym, ap, subst, arith}
use Rattle.face_data.specs.Summaries.{Summary}
use Rattle.face_data.specs.View.{summary_of}
use Rattle.std.specs.Prelude.{slice_set}
use Rattle.summary_tree.specs.Leaves.{Leaf, AreSound, leaf_line_count}
use Rattle.tree_examples.proofs.PlainLeaves.{lines_set, sound_instead_face}
use Rattle.tree_examples.proofs.summary_tests.put.Goals as goal

pub replace-requires-clause-sound : goal.replace-requires-clause-sound
replace-requires-clause-sound g c =
    let at = c.args.at in
    let before = c.args.tree.now.leaves in
    let here = sound_instead_face at c.args.lines _ (summary_of c.plain-face.result) c.new.result before c.plain-face.ensures.summary c.new.ensures c.len.ensures.sound c.requires in
    subst (λ (xs : List Leaf). AreSound (slice_set xs at (summary_of c.plain-face.result, c.new.result))) (sym c.reserve.ensures.same.leaves) here

pub returns : goal.returns
returns g c =
    let leaf : Leaf = (summary_of c.plain-face.result, c.new.result) in
    omega (arith, ap leaf_line_count c.replace.ensures.leaves, lines_set c.args.at leaf c.reserve.new.self.leaves, ap leaf_line_count c.reserve.ensures.same.leaves, ap (λ (face : Summary). face.lines) c.plain-face.ensures.summary)
