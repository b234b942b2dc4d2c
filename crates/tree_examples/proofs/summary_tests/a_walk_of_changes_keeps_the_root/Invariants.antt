use Rattle.tree_examples.proofs.summary_tests.a_walk_of_changes_keeps_the_root.Given as goal

abbrev pub ghosts-walked : goal.ghosts-walked
ghosts-walked g a = record { name = a.blank.name; parts = a.blank.parts }
