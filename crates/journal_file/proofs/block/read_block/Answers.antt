use Rattle.std.proofs.Common.{sym, subst}
use Rattle.journal_file.specs.BlockForms.{IsBlock}
use Rattle.journal_file.specs.Reading.{FormHasRead, IsFault}
use Rattle.journal_file.specs.Texts.{TextLinesForm}
use Rattle.journal_file.proofs.BlockReadings.{block_fault, block_read, block_stops}
use Rattle.journal_file.proofs.block.read_block.Goals as goal

pub returns-in-Ok-clause-read : goal.returns-in-Ok-clause-read
returns-in-Ok-clause-read c =
    subst (λ n. FormHasRead (IsBlock c.args.most) c.args.start.rest.now c.args.start.taken (n, c.in-Ok.text) c.in-Ok.behind.rest.now c.in-Ok.behind.taken) (sym c.in-Ok.ensures.len)
    (block_read c.args.most c.args.start.rest.now c.args.start.taken c.in-Some.count c.in-Some.at.rest.now c.in-Ok.text c.in-Ok.behind.rest.now c.in-Ok.behind.taken c.in-Some.ensures.count
    (subst (λ n. FormHasRead (TextLinesForm c.in-Some.count) c.in-Some.at.rest.now n c.in-Ok.text c.in-Ok.behind.rest.now c.in-Ok.behind.taken) c.in-Some.ensures.taken c.in-Ok.ensures.read))

pub returns-in-Err-clause-fault : goal.returns-in-Err-clause-fault
returns-in-Err-clause-fault c =
    block_fault c.args.most c.ranges.most.fits c.args.start.rest.now c.args.start.taken c.in-Some.at.taken c.in-Some.count c.in-Some.at.rest.now c.in-Some.ensures.taken c.in-Some.ensures.count c.in-Err.fault c.in-Err.ensures.fault

pub returns-in-None-clause-fault : goal.returns-in-None-clause-fault
returns-in-None-clause-fault c =
    subst (IsFault (IsBlock c.args.most) c.args.start.rest.now c.args.start.taken) (sym c.bad.ensures)
    (block_stops c.args.most c.requires.some c.ranges.most.fits c.args.start.rest.now c.args.start.taken c.in-None.ensures.count)
