use Rattle.journal_file.proofs.EntryLines.{anchor_none, id_one, start_one}
use Rattle.journal_file.proofs.entry_words.anchor_of.Goals as goal

pub returns-in-None-number : goal.returns-in-None-number
returns-in-None-number c = anchor_none c.args.text.now c.in-None.ensures c.in-None-number.ensures

pub returns-in-Some : goal.returns-in-Some
returns-in-Some c = (tt, c.in-Some.ensures, start_one c.args.text.now c.in-Some.rest.now c.in-Some.ensures)

pub returns-in-Some-number : goal.returns-in-Some-number
returns-in-Some-number c =
    let h = c.in-Some-number.ensures in
    (h.fits, h.spelt, id_one c.args.text.now c.in-Some-number.id c.in-Some-number.rest.now c.in-None.ensures h)
