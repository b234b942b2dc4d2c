use Rattle.std.proofs.Common.{◌-◌, length}
use Rattle.script_reader.specs.Groups.{step_statements}
use Rattle.script_reader.specs.Reading.{is_good_session}
use Rattle.script_reader.proofs.Sessions.{SessionsSoFar}
use Rattle.script_reader.proofs.groups.read_sessions.Given as goal

abbrev pub invariant-loop-at : goal.invariant-loop-at
invariant-loop-at l = SessionsSoFar step_statements is_good_session l.lines l.start l.at l.sessions

abbrev pub decreases-loop-at : goal.decreases-loop-at
decreases-loop-at l = length l.lines - l.at
