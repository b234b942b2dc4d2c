use Rattle.std.proofs.Common.{◌∙◌, ◌+◌, ap, sym, subst}
use Rattle.journal_file.specs.Fronts.{AreFront}
use Rattle.journal_file.specs.Reading.{FormHasRead, IsFault, IsFormStop}
use Rattle.journal_file.proofs.FrontReadings.{front_read, no_profile, no_title}
use Rattle.journal_file.proofs.front.read_front.Goals as goal

pub returns-in-Some-take_profile-clause-read : goal.returns-in-Some-take_profile-clause-read
returns-in-Some-take_profile-clause-read c =
    subst (λ n. FormHasRead AreFront c.args.start.rest.now c.args.start.taken (tt, c.in-Some-take_profile.profile) c.in-Some-take_profile.behind.rest.now n) (sym (c.in-Some-take_profile.ensures.count ∙ ap (λ n. n + 1) c.in-Some.ensures.count))
    (front_read c.args.start.rest.now c.args.start.taken c.in-Some.at.rest.now c.in-Some-take_profile.profile c.in-Some-take_profile.behind.rest.now c.in-Some.ensures.title c.in-Some-take_profile.ensures.profile)

pub returns-in-None-take_profile-clause-fault : goal.returns-in-None-take_profile-clause-fault
returns-in-None-take_profile-clause-fault c =
    subst (IsFault AreFront c.args.start.rest.now c.args.start.taken) (sym c.bad.ensures)
    (subst (λ n. IsFormStop AreFront c.args.start.rest.now c.args.start.taken (n + 1)) (sym c.in-Some.ensures.count)
    (no_profile c.args.start.rest.now c.args.start.taken c.in-Some.at.rest.now c.in-Some.ensures.title c.in-None-take_profile.ensures.profile))

pub returns-in-None-clause-fault : goal.returns-in-None-clause-fault
returns-in-None-clause-fault c =
    subst (IsFault AreFront c.args.start.rest.now c.args.start.taken) (sym c.bad-in-None.ensures) (no_title c.args.start.rest.now c.args.start.taken c.in-None.ensures.title)
