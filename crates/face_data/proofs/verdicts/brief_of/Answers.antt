use Rattle.std.proofs.Common.{ap, ◌∙◌, arith}
use Rattle.knit_base.specs.declared.instr.Quarter.{Quarter}
use Rattle.carriage_model.specs.declared.verdict.Brief.TheVariants.{Sound}
use Rattle.face_data.specs.View.{summary_of}
use Rattle.face_data.proofs.EmptyBeds.{brief_told, few_new, new_in_face}
use Rattle.face_data.proofs.verdicts.brief_of.Goals as goal

pub overflow_cast-result : goal.overflow_cast-result
overflow_cast-result c =
    omega (arith, c.count_new.ensures, new_in_face c.args.face.now c.requires.packed, few_new (summary_of c.args.face.now) c.requires.good)

pub returns-in-Ok : goal.returns-in-Ok
returns-in-Ok c =
    ap (λ (rack : Quarter). Sound c.args.face.now.lines c.args.face.now.made c.count_new.result rack) c.unwrap_or.ensures
    ∙ brief_told c.args.face.now c.in-Ok.effect c.args.first c.count_new.result c.requires.packed c.in-Ok.ensures.through c.count_new.ensures
