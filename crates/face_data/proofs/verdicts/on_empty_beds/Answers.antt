use Rattle.std.proofs.Common.{arith, sym, ◌∙◌}
use Rattle.carriage_model.specs.State.{empty_state}
use Rattle.face_data.specs.View.{summary_of}
use Rattle.face_data.proofs.EmptyBeds.{fault_within, first_fault_found}
use Rattle.face_data.proofs.verdicts.on_empty_beds.Goals as goal

pub raised-requires : goal.raised-requires
raised-requires c =
    let face = summary_of c.args.face.now in
    let found = first_fault_found c.args.face.now.names.now c.args.face.now.checks.now empty_state ∙ sym c.fault_on_empty.ensures ∙ c.in-Some.is in
    omega (arith, fault_within face.checks face.lines empty_state c.in-Some.fault c.requires.good.good.fair.within found, c.requires.lines)
