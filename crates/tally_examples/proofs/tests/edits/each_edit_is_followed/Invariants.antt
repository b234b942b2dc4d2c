use Rattle.tally_examples.proofs.tests.edits.each_edit_is_followed.Given as goal

abbrev pub ghosts-edited : goal.ghosts-edited
ghosts-edited g a = record { name = a.blank.name; parts = a.blank.parts }
