use Rattle.summary_tree.proofs.Roots.{none_sound}
use Rattle.summary_tree.proofs.tree.Tree.new.Goals as goal

pub new-requires-2 : goal.new-requires-2
new-requires-2 c = record { none = none_sound }
