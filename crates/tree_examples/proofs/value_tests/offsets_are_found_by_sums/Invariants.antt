use Rattle.tree_examples.proofs.value_tests.offsets_are_found_by_sums.Given as goal

abbrev pub ghosts-counted : goal.ghosts-counted
ghosts-counted g a = record { name = a.blank.name; parts = a.blank.parts }
