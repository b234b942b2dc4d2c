use Rattle.journal_file.proofs.EntryLines.{edit_no_put, edit_none}
use Rattle.journal_file.proofs.entry_words.edit_words.Goals as goal

pub returns-in-None-pair : goal.returns-in-None-pair
returns-in-None-pair c = edit_no_put c.args.text.now c.in-Some.rest.now c.in-Some.block c.in-Some.ensures c.in-None-pair.ensures

pub returns-in-None-pair-2 : goal.returns-in-None-pair-2
returns-in-None-pair-2 c = edit_none c.args.text.now c.in-None.ensures c.in-None-behind.ensures c.in-None-pair-2.ensures
