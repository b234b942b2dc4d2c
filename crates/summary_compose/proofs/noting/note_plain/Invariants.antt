use Rattle.std.proofs.Common.{◌≡◌, ◌-◌, ◌≤◌, length, take}
use Rattle.face_data.specs.Digests.{digest_of}
use Rattle.summary_compose.specs.Known.{checks_in}
use Rattle.summary_compose.proofs.noting.note_plain.Given as goal

abbrev pub invariant-loop-i : goal.invariant-loop-i
invariant-loop-i l = record {
  noted : l.digest ≡ digest_of (take l.i (checks_in l.face));
  within : l.i ≤ length l.face.checks.now;
}

abbrev pub decreases-loop-i : goal.decreases-loop-i
decreases-loop-i l = length l.face.checks.now - l.i
