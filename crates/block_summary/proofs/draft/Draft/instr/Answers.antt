use Rattle.std.proofs.Common.{None, sym, subst, ◌∙◌, refl}
use Rattle.knit_base.specs.declared.instr.Instr.{Instr}
use Rattle.knit_base.specs.declared.instr.Read.TheVariants as read
use Rattle.block_summary.specs.declared.line.DraftedLineEnd.TheVariants.{GoesOn}
use Rattle.block_summary.specs.LineEnds.{EndsAs}
use Rattle.block_summary.proofs.LineSteps.{pause_goes}
use Rattle.block_summary.proofs.draft.Draft.instr.Goals as goal

pub returns-in-Pause : goal.returns-in-Pause
returns-in-Pause c =
    let goes = c.pass.ensures.line ∙ pause_goes c.args.profile.now c.args.self.now c.pass.ensures.through in
    subst (λ (i : Instr). EndsAs c.args.profile.now (read.Instr i) c.args.self.now c.pass.new.self (GoesOn None)) (sym c.in-Pause.is) (goes, refl)
