-- One condition more is noted.
use Rattle.std.proofs.Common.{◌∙◌, ap, sym, arith, take}
use Rattle.face_data.specs.Digests.{digest_of, digest_with}
use Rattle.face_data.proofs.Digests.{digest_of-push}
use Rattle.summary_compose.specs.Known.{checks_in}
use Rattle.summary_compose.proofs.Readings.{check_at, first_check, noted_more}
use Rattle.summary_compose.proofs.noting.note_plain.Goals as goal

pub loop-i-preserved : goal.loop-i-preserved
loop-i-preserved c =
    let face = c.args.face.now in
    let asked = check_at face c.loop-i.i first_check in
    record {
      noted = c.note_if_plain.ensures ∙ ap (λ d. digest_with d asked.ask) c.loop-i.invariant.noted ∙ sym (digest_of-push (take c.loop-i.i (checks_in face)) asked)
          ∙ ap digest_of (noted_more face c.loop-i.i first_check c.loop-i-test.true);
      within = omega arith;
    }
