use Rattle.std.proofs.lemmas.Result.{IfErr-weaker, IfOk-weaker}
use Rattle.journal_file.specs.Faults.{AreEntriesFault, IsBadJournal, IsOneSpelling, IsSavedTextRefused}
use Rattle.journal_file.specs.SavedParts.{opening_with}
use Rattle.journal_file.proofs.JournalReadings.{bad_refused, opening_bad}
use Rattle.journal_file.proofs.WholeReadings.{IsSavedBy, lawful_so, opening_bounds, saved_once, saved_whole, spelt_so, whole_bad}
use Rattle.journal_file.proofs.read.read_journal.Goals as goal

pub read_behind-requires-clause-bounds : goal.read_behind-requires-clause-bounds
read_behind-requires-clause-bounds c = opening_bounds c.args.bytes.now c.in-Ok.opening c.in-Ok.at.rest.now c.in-Ok.at.taken c.in-Ok.ensures.read

pub returns-in-Ok-clause-spelt : goal.returns-in-Ok-clause-spelt
returns-in-Ok-clause-spelt c =
    let e = c.read_behind.ensures in
    spelt_so c.args.bytes.now c.read_behind.result
    (saved_whole c.args.bytes.now c.in-Ok.opening c.in-Ok.at.rest.now c.in-Ok.at.taken c.in-Ok.ensures.read c.read_behind.result e.head e.profile e.numbered e.read e.come)

pub returns-in-Ok-clause-lawful : goal.returns-in-Ok-clause-lawful
returns-in-Ok-clause-lawful c =
    let e = c.read_behind.ensures in
    lawful_so c.args.bytes.now c.read_behind.result
    (saved_whole c.args.bytes.now c.in-Ok.opening c.in-Ok.at.rest.now c.in-Ok.at.taken c.in-Ok.ensures.read c.read_behind.result e.head e.profile e.numbered e.read e.come)

pub returns-in-Ok-clause-one : goal.returns-in-Ok-clause-one
returns-in-Ok-clause-one c =
    let e = c.read_behind.ensures in
    IfOk-weaker c.read_behind.result (IsSavedBy c.args.bytes.now) (IsOneSpelling c.args.bytes.now) (saved_once c.args.bytes.now)
    (saved_whole c.args.bytes.now c.in-Ok.opening c.in-Ok.at.rest.now c.in-Ok.at.taken c.in-Ok.ensures.read c.read_behind.result e.head e.profile e.numbered e.read e.come)

pub returns-in-Ok-clause-bad : goal.returns-in-Ok-clause-bad
returns-in-Ok-clause-bad c =
    IfErr-weaker c.read_behind.result (AreEntriesFault (opening_with c.in-Ok.opening.head c.in-Ok.opening.profile c.in-Ok.opening.texts) c.in-Ok.opening.entries c.in-Ok.at.rest.now c.in-Ok.at.taken) (IsBadJournal c.args.bytes.now)
    (whole_bad c.args.bytes.now c.in-Ok.opening c.in-Ok.at.rest.now c.in-Ok.at.taken c.in-Ok.ensures.read) c.read_behind.ensures.fault

pub returns-in-Ok-clause-refused : goal.returns-in-Ok-clause-refused
returns-in-Ok-clause-refused c =
    IfErr-weaker c.read_behind.result (AreEntriesFault (opening_with c.in-Ok.opening.head c.in-Ok.opening.profile c.in-Ok.opening.texts) c.in-Ok.opening.entries c.in-Ok.at.rest.now c.in-Ok.at.taken) (IsSavedTextRefused c.args.bytes.now)
    (λ fault stops. bad_refused c.args.bytes.now fault (whole_bad c.args.bytes.now c.in-Ok.opening c.in-Ok.at.rest.now c.in-Ok.at.taken c.in-Ok.ensures.read fault stops)) c.read_behind.ensures.fault

pub returns-in-Err-clause-bad : goal.returns-in-Err-clause-bad
returns-in-Err-clause-bad c = opening_bad c.args.bytes.now c.in-Err.fault c.in-Err.ensures.fault

pub returns-in-Err-clause-refused : goal.returns-in-Err-clause-refused
returns-in-Err-clause-refused c = bad_refused c.args.bytes.now c.in-Err.fault (opening_bad c.args.bytes.now c.in-Err.fault c.in-Err.ensures.fault)
