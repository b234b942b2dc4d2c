use Rattle.summary_examples.proofs.loop_tests.rows_are_found_by_offset.Given as goal

abbrev pub ghosts-places_of : goal.ghosts-places_of
ghosts-places_of g a = record { name = a.blank.name; parts = a.blank.parts }
