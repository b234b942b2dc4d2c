use Rattle.journal_file.proofs.EntryLines.{add_no_pair}
use Rattle.journal_file.proofs.entry_words.add_words.Goals as goal

pub returns-in-None-pair : goal.returns-in-None-pair
returns-in-None-pair c = add_no_pair c.args.text.now c.in-Some.rest.now c.in-Some.ensures.2 c.in-None-pair.ensures
