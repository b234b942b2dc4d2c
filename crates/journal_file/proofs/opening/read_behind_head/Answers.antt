use Rattle.std.proofs.Common.{length, map, sym, subst}
use Rattle.journal_file.specs.Reading.{IsFault}
use Rattle.journal_file.specs.SavedForms.{IsBehindHead, block_words}
use Rattle.journal_file.proofs.OpeningReadings.{behind_head_fault, behind_head_read, no_entry_count}
use Rattle.journal_file.proofs.opening.read_behind_head.Goals as goal

pub returns-in-Some-clause-read : goal.returns-in-Some-clause-read
returns-in-Some-clause-read c =
    behind_head_read c.args.start.rest.now c.args.start.taken (length c.in-Ok.texts, map block_words c.in-Ok.texts) c.in-Ok.at.rest.now c.in-Ok.at.taken c.in-Some.entries c.in-Some.behind.rest.now c.in-Some.behind.taken c.in-Ok.ensures.read
    c.in-Some.ensures.count c.in-Some.ensures.taken

pub returns-in-None-clause-fault : goal.returns-in-None-clause-fault
returns-in-None-clause-fault c =
    subst (IsFault IsBehindHead c.args.start.rest.now c.args.start.taken) (sym c.bad.ensures)
    (no_entry_count c.args.start.rest.now c.args.start.taken (length c.in-Ok.texts, map block_words c.in-Ok.texts) c.in-Ok.at.rest.now c.in-Ok.at.taken c.in-Ok.ensures.read c.in-None.ensures.count)

pub returns-in-Err-clause-fault : goal.returns-in-Err-clause-fault
returns-in-Err-clause-fault c = behind_head_fault c.args.start.rest.now c.args.start.taken c.in-Err.fault c.in-Err.ensures.fault
