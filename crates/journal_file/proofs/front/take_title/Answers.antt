use Rattle.std.proofs.Common.{rules, ◌≢◌, codes}
use Rattle.journal_file.specs.Fronts.{IsTitle}
use Rattle.journal_file.proofs.Readings.{taken-bad, taken-none}
use Rattle.journal_file.proofs.front.take_title.Goals as goal

pub returns-then-ne-clause-title : goal.returns-then-ne-clause-title
returns-then-ne-clause-title c =
    let other : c.in-Some.line.now ≢ codes "journal 1" = search rules in
    taken-bad IsTitle c.args.at.rest.now c.in-Some.line.now c.in-Some.rest.now c.in-Some.ensures.0 c.in-Some.ensures.1 (λ a is. other is)

pub returns-in-None-clause-title : goal.returns-in-None-clause-title
returns-in-None-clause-title c = taken-none IsTitle c.args.at.rest.now c.in-None.ensures
