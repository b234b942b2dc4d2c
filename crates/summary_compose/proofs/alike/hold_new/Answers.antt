-- No loop of an entry is among them, and the new ones are few.
use Rattle.std.proofs.Common.{arith}
use Rattle.face_data.specs.Segments.{names_through, new_through}
use Rattle.summary_compose.specs.Changes.{changes_in}
use Rattle.summary_compose.proofs.ImpliedChecks.{new_holds}
use Rattle.summary_compose.proofs.alike.hold_new.Goals as goal

pub returns-in-Some : goal.returns-in-Some
returns-in-Some c = λ yes notes.
    new_holds notes (names_through (changes_in c.args.a.now) c.args.needles.now) (new_through (changes_in c.args.a.now) c.args.needles.now) c.args.most c.in-Some.ensures.entries (grind arith)
