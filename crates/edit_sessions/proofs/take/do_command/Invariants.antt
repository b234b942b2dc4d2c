use Rattle.edit_sessions.proofs.take.do_command.Given as goal

abbrev pub ghosts-take : goal.ghosts-take
ghosts-take g a = record { name = a.blank.name; parts = a.blank.parts }
