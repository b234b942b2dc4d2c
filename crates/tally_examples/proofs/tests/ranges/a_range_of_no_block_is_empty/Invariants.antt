use Rattle.tally_examples.proofs.tests.ranges.a_range_of_no_block_is_empty.Given as goal

abbrev pub ghosts-at_ends : goal.ghosts-at_ends
ghosts-at_ends g a = record { name = a.blank.name; parts = a.blank.parts }
