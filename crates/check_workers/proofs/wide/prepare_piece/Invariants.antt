use Rattle.check_workers.proofs.wide.prepare_piece.Given as goal

abbrev pub ghosts-prepare_counted : goal.ghosts-prepare_counted
ghosts-prepare_counted g a = record { name = a.blank.name; parts = a.blank.parts }
