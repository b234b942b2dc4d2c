use Rattle.document_examples.proofs.tests.copy.a_copy_answers_as_the_book_and_is_edited_alone.Given as goal

abbrev pub ghosts-copied : goal.ghosts-copied
ghosts-copied g a = record { name = a.blank.name; parts = a.blank.parts }
