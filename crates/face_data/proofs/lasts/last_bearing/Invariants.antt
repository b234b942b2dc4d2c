use Rattle.std.proofs.Common.{◌≡◌, drop}
use Rattle.face_data.specs.Lasts.{last_at}
use Rattle.face_data.proofs.lasts.last_bearing.Given as goal

abbrev pub invariant-loop-last : goal.invariant-loop-last
invariant-loop-last l = last_at (drop l.last-index l.lasts) l.c ≡ last_at l.lasts l.c
