use Rattle.tally_examples.proofs.tests.ranges.the_sum_of_two_ranges_is_the_range_of_both.Given as goal

abbrev pub ghosts-merged : goal.ghosts-merged
ghosts-merged g a = record { name = a.blank.name; parts = a.blank.parts }
