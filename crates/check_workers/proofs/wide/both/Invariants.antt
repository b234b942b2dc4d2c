use Rattle.check_workers.proofs.wide.both.Given as goal

abbrev pub ghosts-both_counted : goal.ghosts-both_counted
ghosts-both_counted g a = record { name = a.blank.name; parts = a.blank.parts }
