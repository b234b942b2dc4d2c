use Rattle.live_talk.proofs.begin.begin_with.Given as goal

abbrev pub ghosts-book_of : goal.ghosts-book_of
ghosts-book_of g a = record { name = a.blank.name; parts = a.blank.parts }
