use Rattle.journal_file.proofs.book.reopen.Given as goal

abbrev pub ghosts-reopen_counted : goal.ghosts-reopen_counted
ghosts-reopen_counted g a = record { name = a.blank.name; parts = a.blank.parts }
