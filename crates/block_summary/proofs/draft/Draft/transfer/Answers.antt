use Rattle.std.proofs.Common.{◌∙◌, ◌+◌, ◌-◌, ◌<◌, ◌^◌, Option, refl, ap, sym, subst}
use Rattle.knit_base.specs.declared.rule.Reason.{Reason}
use Rattle.face_data.specs.declared.face.Ending.TheVariants.{Through}
use Rattle.face_data.specs.Composition.{effect_of_both}
use Rattle.face_data.specs.Summaries.{Summary}
use Rattle.block_summary.specs.Asks.{formed_loop}
use Rattle.block_summary.specs.DraftKnowledge.{HasAskedAll, effect_in, stopped_at}
use Rattle.block_summary.specs.LineSummaries.{conditions_of_instr}
use Rattle.block_summary.proofs.KnitSteps.{lines_before, through_before}
use Rattle.block_summary.proofs.LineSteps.{line_stops}
use Rattle.block_summary.proofs.TransferSteps.{transfer_goes, rising_before}
use Rattle.block_summary.proofs.draft.Draft.transfer.Goals as goal

pub stop-requires : goal.stop-requires
stop-requires c = lines_before c.args.self.now c.ask_transfer.new.self (c.in_ok-reason.ensures c.args.profile.now refl).rest_stays c.requires.few

pub returns-in-Some : goal.returns-in-Some
returns-in-Some c =
    let profile = c.args.profile.now in
    let instr = c.args.instr.now in
    let old = c.args.self.now in
    let mid = c.ask_transfer.new.self in
    let asked = subst (λ (stop : Option Reason). HasAskedAll old mid (conditions_of_instr profile instr) stop) c.in-Some.is (c.in_ok-reason.ensures profile refl) in
    line_stops profile instr old mid c.in-Some.reason (through_before old mid asked.rest_stays c.stop.ensures.through) asked
    ∙ (λ i. stopped_at (sym c.stop.ensures.fault i) (sym c.stop.ensures.line i))

pub move_on-requires-clause-few : goal.move_on-requires-clause-few
move_on-requires-clause-few c =
    subst (λ (s : Summary). s.lines < 2 ^ 32 - 1) (sym c.in_ok-move_loops.ensures.changes)
    (lines_before c.args.self.now c.ask_transfer.new.self (c.in_ok-reason.ensures c.args.profile.now refl).rest_stays c.requires.few)

pub returns : goal.returns
returns c =
    let profile = c.args.profile.now in
    let instr = c.args.instr.now in
    let old = c.args.self.now in
    let mid = c.ask_transfer.new.self in
    let asked = subst (λ (stop : Option Reason). HasAskedAll old mid (conditions_of_instr profile instr) stop) c.in_default.is (c.in_ok-reason.ensures profile refl) in
    let lawful = c.requires.lawful in (
      transfer_goes c.args.profile.now lawful.0 instr c.args.n c.args.n2 old mid c.move_loops.new.self c.move_on.new.self (through_before old mid asked.rest_stays c.move_loops.ensures.through)
          (rising_before old mid asked.rest_stays c.move_loops.ensures.rising) lawful.2 c.requires.transfer asked c.in_ok-move_loops.ensures.changes
          (c.move_on.ensures ∙ ap (λ e. record c.move_loops.new.self { lines = c.move_loops.new.self.lines + 1; made = c.move_loops.new.self.made + 0; ending = Through (effect_of_both (effect_in c.move_loops.new.self.ending) e) }) c.no_effect.ensures),
      ap (λ i. formed_loop i old.changes) (sym c.requires.transfer),
    )
