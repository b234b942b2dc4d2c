use Rattle.summary_compose.proofs.alike.find_same.Given as goal

abbrev pub decreases-loop-walk : goal.decreases-loop-walk
decreases-loop-walk l = l.walk.spare
