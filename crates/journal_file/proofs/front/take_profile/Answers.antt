use Rattle.journal_file.specs.Profiles.{IsProfile}
use Rattle.journal_file.proofs.Readings.{taken-bad, taken-none}
use Rattle.journal_file.proofs.front.take_profile.Goals as goal

pub returns-in-None-profile_of-clause-profile : goal.returns-in-None-profile_of-clause-profile
returns-in-None-profile_of-clause-profile c = taken-bad IsProfile c.args.at.rest.now c.in-Some.line.now c.in-Some.rest.now c.in-Some.ensures.0 c.in-Some.ensures.1 c.in-None-profile_of.ensures

pub returns-in-None-clause-profile : goal.returns-in-None-clause-profile
returns-in-None-clause-profile c = taken-none IsProfile c.args.at.rest.now c.in-None.ensures
