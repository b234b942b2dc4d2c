use Rattle.journal_file.proofs.EntryLines.{pair_no_first, pair_no_second}
use Rattle.journal_file.proofs.entry_words.pair.Goals as goal

pub returns-in-None : goal.returns-in-None
returns-in-None c = pair_no_first c.args.first.now c.args.second.now c.args.text.now c.args.most c.requires c.in-None.ensures

pub returns-in-None-count_of : goal.returns-in-None-count_of
returns-in-None-count_of c = pair_no_second c.args.first.now c.args.second.now c.args.text.now c.in-Some.rest.now c.args.most c.in-Some.a c.requires c.in-Some.ensures c.in-None-count_of.ensures
