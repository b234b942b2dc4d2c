-- The code can compose good faces, and their composition is good and runs both.
use Rattle.std.proofs.Common.{sym, subst, ◌∙◌}
use Rattle.face_data.specs.Composition.{and_then}
use Rattle.face_data.specs.Goodness.{IsGood}
use Rattle.face_data.specs.Items.{items, most_items}
use Rattle.face_data.specs.Summaries.{Summary, summary_outcome}
use Rattle.face_data.specs.View.{summary_of}
use Rattle.std.specs.Prelude.{◌≡◌, ◌+◌, ◌≤◌, ◌++◌, length}
use Rattle.face_data.proofs.Goodness.{composed_good, composed_runs_both}
use Rattle.summary_compose.specs.Composing.{IsNoGreater, ScratchView}
use Rattle.summary_compose.specs.Rooms.{room_of_both_faces}
use Rattle.summary_compose.proofs.ComposedRooms.{composed_fits}
use Rattle.summary_compose.proofs.GoodFaces.{good_faces_compose, composed_items}
use Rattle.summary_compose.proofs.Rooms.{finds_room}
use Rattle.summary_compose.proofs.scratch.compose_into.Goals as goal

pub put_together-requires-clause-composes : goal.put_together-requires-clause-composes
put_together-requires-clause-composes g c = good_faces_compose c.args.a.now c.args.b.now c.requires.good c.requires.packed c.requires.second_packed c.requires.lines

pub returns-clause-runs_both : goal.returns-clause-runs_both
returns-clause-runs_both g c = λ s first.
    let h = c.requires.good in
    subst (λ (m : Summary). summary_outcome m s first ≡ and_then (summary_outcome (summary_of c.args.a.now) s first) (λ t. summary_outcome (summary_of c.args.b.now) t (first + c.args.a.now.lines)))
    (sym c.put_together.ensures.made) (composed_runs_both h.carriers h.limit h.first_known h.second_known (summary_of c.args.a.now) (summary_of c.args.b.now) h.first h.second s first)

pub returns-clause-good : goal.returns-clause-good
returns-clause-good g c = λ carriers limit first second ga gb.
    subst (IsGood carriers limit (first ++ second)) (sym c.put_together.ensures.made) (composed_good carriers limit first second (summary_of c.args.a.now) (summary_of c.args.b.now) ga gb)

pub returns-clause-bound : goal.returns-clause-bound
returns-clause-bound g c = λ carriers limit known ga gb.
    subst (λ (m : Summary). items m ≤ most_items carriers limit (length known)) (sym c.put_together.ensures.made) (composed_items carriers limit known (summary_of c.args.a.now) (summary_of c.args.b.now) ga gb)

pub returns-clause-fits : goal.returns-clause-fits
returns-clause-fits g c = λ face packed is.
    composed_fits c.args.a.now c.args.b.now face c.scratch.inside.room c.requires.good c.requires.packed c.requires.second_packed packed (is ∙ c.put_together.ensures.made) c.scratch.invariant.1
    (subst (λ (v : ScratchView). IsNoGreater (room_of_both_faces c.args.a.now c.args.b.now) v.room) (sym c.scratch.view_is) c.requires.room)

pub put_together-requires-clause-room : goal.put_together-requires-clause-room
put_together-requires-clause-room g c = (
  c.scratch.inside.room,
  finds_room c.args.a.now c.args.b.now c.requires.good c.requires.packed c.requires.second_packed c.scratch.inside.room c.scratch.invariant.1
      (subst (λ (v : ScratchView). IsNoGreater (room_of_both_faces c.args.a.now c.args.b.now) v.room) (sym c.scratch.view_is) c.requires.room),
  c.scratch.invariant.0,
)

pub invariant_of-scratch : goal.invariant_of-scratch
invariant_of-scratch g c = (c.put_together.ensures.keeps c.scratch.inside.room c.scratch.invariant.0, c.scratch.invariant.1)
