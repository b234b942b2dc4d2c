use Rattle.std.proofs.Common.{length}
use Rattle.std.proofs.lemmas.Result.{IfErr-weaker}
use Rattle.journal_file.specs.Reading.{IsFault}
use Rattle.journal_file.specs.SavedForms.{IsBehindHead, OpeningForm}
use Rattle.journal_file.proofs.OpeningReadings.{front_fault, head_fault, opened_whole, opening_fault}
use Rattle.journal_file.proofs.opening.read_opening.Goals as goal

pub returns-in-Ok-read_head-clause-read : goal.returns-in-Ok-read_head-clause-read
returns-in-Ok-read_head-clause-read c =
    let more = c.read_behind_head.ensures in
    opened_whole c.args.start.rest.now c.args.start.taken c.in-Ok.profile c.in-Ok.at.rest.now c.in-Ok.at.taken c.in-Ok-read_head.head c.in-Ok-read_head.behind.rest.now c.in-Ok-read_head.behind.taken c.in-Ok.ensures.read c.in-Ok-read_head.ensures.read
    c.read_behind_head.result more.profile more.head more.read

pub returns-in-Ok-read_head-clause-fault : goal.returns-in-Ok-read_head-clause-fault
returns-in-Ok-read_head-clause-fault c =
    IfErr-weaker c.read_behind_head.result (IsFault IsBehindHead c.in-Ok-read_head.behind.rest.now c.in-Ok-read_head.behind.taken) (IsFault OpeningForm c.args.start.rest.now c.args.start.taken)
    (opening_fault c.args.start.rest.now c.args.start.taken c.in-Ok.profile c.in-Ok.at.rest.now c.in-Ok.at.taken (length c.in-Ok-read_head.head, c.in-Ok-read_head.head) c.in-Ok-read_head.behind.rest.now c.in-Ok-read_head.behind.taken
    c.in-Ok.ensures.read c.in-Ok-read_head.ensures.read) c.read_behind_head.ensures.fault

pub returns-in-Err-read_head-clause-fault : goal.returns-in-Err-read_head-clause-fault
returns-in-Err-read_head-clause-fault c = head_fault c.args.start.rest.now c.args.start.taken c.in-Ok.profile c.in-Ok.at.rest.now c.in-Ok.at.taken c.in-Ok.ensures.read c.in-Err-read_head.fault c.in-Err-read_head.ensures.fault

pub returns-in-Err-clause-fault : goal.returns-in-Err-clause-fault
returns-in-Err-clause-fault c = front_fault c.args.start.rest.now c.args.start.taken c.in-Err.fault c.in-Err.ensures.fault
