use Rattle.std.proofs.Common.{◌+◌, List, Option, sym, subst}
use Rattle.knit_base.specs.declared.needle.Needle.{Needle}
use Rattle.carriage_model.specs.Steps.{step_instr}
use Rattle.face_data.specs.Segments.{Changed}
use Rattle.bed_rules.specs.Beds.{changes_of, AreReadAfter}
use Rattle.bed_rules.proofs.Stacks.{changed-read}
use Rattle.bed_rules.proofs.ask.Goals as goal

pub returns-clause-changed : goal.returns-clause-changed
returns-clause-changed c s t first offset read =
    let segments = c.args.segments.now in
    let instr = c.args.instr.now in
    let stacks = (step_instr (first + offset) instr t).stacks in
    subst (λ (changed : List Changed). AreReadAfter segments changed c.forming_needle.result s first offset stacks) (sym c.in_ok-changes_of.ensures)
    (subst (λ (makes : Option Needle). AreReadAfter segments (changes_of instr segments) makes s first offset stacks) (sym c.forming_needle.ensures)
    (changed-read segments instr s t first offset read))
