use Rattle.check_workers.proofs.prepare.prepare_lot.Given as goal

abbrev pub ghosts-prepare_in_turn : goal.ghosts-prepare_in_turn
ghosts-prepare_in_turn g a = record { name = a.blank.name; parts = a.blank.parts }
