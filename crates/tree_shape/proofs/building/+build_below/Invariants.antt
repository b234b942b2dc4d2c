use Rattle.tree_shape.proofs.building.+build_below.Given as goal

abbrev pub decreases-build_below : goal.decreases-build_below
decreases-build_below l = l.many
