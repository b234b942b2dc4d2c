use Rattle.talk_desk.proofs.host.Host.say_end.Given as goal

abbrev pub ghosts-final_of : goal.ghosts-final_of
ghosts-final_of g a = record { name = a.blank.name; parts = a.blank.parts }
