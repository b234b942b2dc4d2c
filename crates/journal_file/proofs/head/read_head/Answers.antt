use Rattle.std.proofs.Common.{arith, codes, sym, subst}
use Rattle.journal_file.specs.HeadForms.{AreHeadLines}
use Rattle.journal_file.specs.Reading.{FormHasRead, IsFault}
use Rattle.journal_file.specs.SavedForms.{HeadForm}
use Rattle.journal_file.proofs.OpeningReadings.{counted_fault, counted_read, no_head}
use Rattle.journal_file.proofs.head.read_head.Goals as goal

pub returns-in-Ok-clause-read : goal.returns-in-Ok-clause-read
returns-in-Ok-clause-read c =
    subst (λ n. FormHasRead HeadForm c.args.start.rest.now c.args.start.taken (n, c.in-Ok.head) c.in-Ok.behind.rest.now c.in-Ok.behind.taken) (sym c.in-Ok.ensures.len)
    (counted_read (codes "head ") 2 16777217 (omega arith) (λ many. AreHeadLines many) c.args.start.rest.now c.args.start.taken c.in-Some.many c.in-Some.at.rest.now c.in-Some.at.taken c.in-Ok.head c.in-Ok.behind.rest.now c.in-Ok.behind.taken
    c.in-Some.ensures.count c.in-Some.ensures.taken c.in-Ok.ensures.read)

pub returns-in-Err-clause-fault : goal.returns-in-Err-clause-fault
returns-in-Err-clause-fault c =
    counted_fault (codes "head ") 2 16777217 (omega arith) (λ many. AreHeadLines many) c.args.start.rest.now c.args.start.taken c.in-Some.many c.in-Some.at.rest.now c.in-Some.at.taken
    c.in-Some.ensures.count c.in-Some.ensures.taken c.in-Err.fault c.in-Err.ensures.fault

pub returns-in-None-clause-fault : goal.returns-in-None-clause-fault
returns-in-None-clause-fault c =
    subst (IsFault HeadForm c.args.start.rest.now c.args.start.taken) (sym c.bad.ensures) (no_head c.args.start.rest.now c.args.start.taken c.in-None.ensures.count)
