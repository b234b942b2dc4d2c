use Rattle.document_examples.proofs.tests.book.a_warm_block_is_ready.Given as goal

abbrev pub ghosts-a_warm_put : goal.ghosts-a_warm_put
ghosts-a_warm_put g a = record { name = a.blank.name; parts = a.blank.parts }
