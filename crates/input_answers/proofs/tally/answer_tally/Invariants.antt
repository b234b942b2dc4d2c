use Rattle.input_answers.proofs.tally.answer_tally.Given as goal

abbrev pub ghosts-tally_at_end : goal.ghosts-tally_at_end
ghosts-tally_at_end g a = record { name = a.blank.name; parts = a.blank.parts }
