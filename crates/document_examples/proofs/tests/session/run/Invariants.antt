use Rattle.document_examples.proofs.tests.session.run.Given as goal

abbrev pub ghosts-played : goal.ghosts-played
ghosts-played g a = record { name = a.blank.name; parts = a.blank.parts }
