use Rattle.std.proofs.Common.{◌∙◌}
use Rattle.carriage_model.specs.declared.verdict.Verdict.TheVariants.{Sound}
use Rattle.face_data.specs.View.{summary_of}
use Rattle.face_data.proofs.EmptyBeds.{told_verdict_holds, sound_told}
use Rattle.face_data.proofs.verdicts.verdict_of.Goals as goal

pub returns-in_ok-stacks_of-in-Ok-clause-stands : goal.returns-in_ok-stacks_of-in-Ok-clause-stands
returns-in_ok-stacks_of-in-Ok-clause-stands c profile lines =
    told_verdict_holds profile (summary_of c.args.face.now) lines c.args.first
    (Sound (record {
      lines = c.args.face.now.lines;
      made = c.args.face.now.made;
      rack = c.unwrap_or.result;
      ins = c.in-Ok.effect.came;
      hook = c.unwrap_or-in-Ok.result;
      stacks = c.in_ok-stacks_of-in-Ok.field-0;
    }))
    c.requires.good.good.fair.in_order
    ((λ i. Sound (record {
      lines = c.args.face.now.lines;
      made = c.args.face.now.made;
      rack = c.unwrap_or.ensures i;
      ins = c.in-Ok.effect.came;
      hook = c.unwrap_or-in-Ok.ensures i;
      stacks = c.in_ok-stacks_of-in-Ok.field-0;
    }))
    ∙ sound_told (summary_of c.args.face.now) c.in-Ok.effect c.args.first c.in_ok-stacks_of-in-Ok.field-0 c.in-Ok.ensures.through c.in_ok-stacks_of-in-Ok.ensures)
