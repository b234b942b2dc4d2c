use Rattle.talk_desk.proofs.questions.tell_or_lack.Given as goal

abbrev pub ghosts-tell : goal.ghosts-tell
ghosts-tell g a = record { name = a.blank.name; parts = a.blank.parts }
