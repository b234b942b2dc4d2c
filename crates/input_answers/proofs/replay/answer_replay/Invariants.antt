use Rattle.input_answers.proofs.replay.answer_replay.Given as goal

abbrev pub ghosts-final_report : goal.ghosts-final_report
ghosts-final_report g a = record { name = a.blank.name; parts = a.blank.parts }
