use Rattle.summary_examples.proofs.loop_tests.long_lists_are_copied_and_read_through.Given as goal

abbrev pub ghosts-has_both_twice : goal.ghosts-has_both_twice
ghosts-has_both_twice g a = record { name = a.blank.name; parts = a.blank.parts }
