use Rattle.document_examples.proofs.tests.book.a_block_is_made_ready.Given as goal

abbrev pub ghosts-a_warmed_book : goal.ghosts-a_warmed_book
ghosts-a_warmed_book g a = record { name = a.blank.name; parts = a.blank.parts }
