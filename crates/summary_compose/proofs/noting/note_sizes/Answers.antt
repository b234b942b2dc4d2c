-- One condition more is noted.
use Rattle.std.proofs.Common.{◌∙◌, ◌++◌, ap, sym, arith, length, take}
use Rattle.summary_compose.specs.Known.{checks_in, notes_in, notes_of}
use Rattle.summary_compose.proofs.Readings.{check_at, first_check, next_note, noted_more}
use Rattle.summary_compose.proofs.Steps.{notes_length, notes_push}
use Rattle.summary_compose.proofs.noting.note_sizes.Goals as goal

pub note_if_sized-requires-clause-room : goal.note_if_sized-requires-clause-room
note_if_sized-requires-clause-room c =
    let size = ap length c.loop-i.invariant.noted ∙ notes_length (take c.loop-i.i (checks_in c.args.face.now)) in
    let more = next_note c.args.face.now c.loop-i.i first_check c.loop-i-test.true in
    omega (arith, size, more, c.requires.room, c.loop-i.invariant.room)

pub loop-i-preserved : goal.loop-i-preserved
loop-i-preserved c =
    let face = c.args.face.now in
    let asked = check_at face c.loop-i.i first_check in
    record {
      noted = c.note_if_sized.ensures.notes ∙ ap (λ ns. ns ++ notes_in asked.ask) c.loop-i.invariant.noted ∙ sym (notes_push (take c.loop-i.i (checks_in face)) asked)
          ∙ ap notes_of (noted_more face c.loop-i.i first_check c.loop-i-test.true);
      within = omega arith;
      room = c.note_if_sized.ensures.room ∙ c.loop-i.invariant.room;
    }
