use Rattle.std.proofs.Common.{◌-◌, length}
use Rattle.script_reader.specs.Script.{all_known, command_statements}
use Rattle.script_reader.proofs.Sessions.{SessionsSoFar}
use Rattle.script_reader.proofs.reader.read_sessions.Given as goal

abbrev pub invariant-loop-at : goal.invariant-loop-at
invariant-loop-at l = SessionsSoFar command_statements (all_known 0) l.lines l.start l.at l.sessions

abbrev pub decreases-loop-at : goal.decreases-loop-at
decreases-loop-at l = length l.lines - l.at
