use Rattle.document_examples.proofs.tests.listing.blocks_and_lines_have_places.Given as goal

abbrev pub ghosts-listed : goal.ghosts-listed
ghosts-listed g a = record { name = a.blank.name; parts = a.blank.parts }
