use Rattle.std.proofs.Common.{List, Option, All, IfSome, sym, ap, ◌∙◌, subst}
use Rattle.knit_base.specs.declared.rule.Reason.{Reason}
use Rattle.knit_base.specs.Instr.{forming_needle}
use Rattle.face_data.specs.declared.face.Cond.{Cond}
use Rattle.face_data.specs.declared.sizes.SizeAsk.{SizeAsk}
use Rattle.face_data.specs.Summaries.{Summary}
use Rattle.block_summary.specs.declared.instr_ask.InstrAsk.{InstrAsk}
use Rattle.block_summary.specs.Asks.{instr_ask}
use Rattle.block_summary.specs.DraftKnowledge.{CanBeAsked, HasAskedAll, IsSmall, stopped_at}
use Rattle.block_summary.specs.LineEnds.{summary_with_line}
use Rattle.block_summary.specs.LineSummaries.{conditions_of_instr}
use Rattle.block_summary.proofs.AskedHold.{some_slider_holds}
use Rattle.block_summary.proofs.LineSteps.{conds_can, sizes_small, slider_small, line_stops, line_goes}
use Rattle.block_summary.proofs.draft.Draft.any_instr.Goals as goal

pub ask_all-requires-clause-carriers : goal.ask_all-requires-clause-carriers
ask_all-requires-clause-carriers c =
    let lawful = c.requires.lawful in
    subst (λ (conds : List (Reason × Cond)). All CanBeAsked conds) (sym (ap (λ (a : InstrAsk). a.carriers) c.in_ok-ask.ensures.is))
    (conds_can c.args.profile.now lawful.0 c.args.profile.now.float c.args.instr.now lawful.1 lawful.2)

pub ask_all-requires-clause-slider : goal.ask_all-requires-clause-slider
ask_all-requires-clause-slider c =
    subst (λ (slider : Option SizeAsk). IfSome slider IsSmall) (sym (ap (λ (a : InstrAsk). a.slider) c.in_ok-ask.ensures.is))
    (slider_small (forming_needle c.args.instr.now) c.contents.result.now)

pub ask_all-requires-clause-sizes : goal.ask_all-requires-clause-sizes
ask_all-requires-clause-sizes c =
    subst (λ (sizes : List SizeAsk). All IsSmall sizes) (sym (ap (λ (a : InstrAsk). a.sizes) c.in_ok-ask.ensures.is))
    (sizes_small c.args.profile.now.hold c.args.instr.now c.contents.result.now c.requires.profile.hold)

pub returns-in-Some : goal.returns-in-Some
returns-in-Some c =
    let profile = c.args.profile.now in
    let instr = c.args.instr.now in
    let old = c.args.self.now in
    let mid = c.ask_all.new.self in
    let is = c.in_ok-ask.ensures.is ∙ ap (instr_ask profile instr) c.contents.ensures.contents in
    line_stops profile instr old mid c.in-Some.reason c.contents.ensures.through
    (subst (λ (stop : Option Reason). HasAskedAll old mid (conditions_of_instr profile instr) stop) c.in-Some.is (c.in_ok-reason.ensures profile instr is))
    ∙ (λ i. stopped_at (sym c.stop.ensures.fault i) (sym c.stop.ensures.line i))

pub returns-in_ok-carry_out-in-None : goal.returns-in_ok-carry_out-in-None
returns-in_ok-carry_out-in-None c =
    let profile = c.args.profile.now in
    let instr = c.args.instr.now in
    let old = c.args.self.now in
    let mid = c.ask_all.new.self in
    let is = c.in_ok-ask.ensures.is ∙ ap (instr_ask profile instr) c.contents.ensures.contents in
    let lawful = c.requires.lawful in (
      c.in_ok-carry_out-in-None.ensures
          ∙ ap (λ (s : Summary). summary_with_line s c.in_ok-ask.ask) c.note_slider.ensures
          ∙ line_goes profile lawful.0 instr old mid c.in_ok-ask.ask c.contents.ensures.through c.contents.ensures.rising lawful.2 is
          (subst (λ (stop : Option Reason). HasAskedAll old mid (conditions_of_instr profile instr) stop) c.in-None.is (c.in_ok-reason.ensures profile instr is)),
      ap (λ (a : InstrAsk). a.formed) is,
    )

pub note_slider-requires : goal.note_slider-requires
note_slider-requires c =
    let profile = c.args.profile.now in
    let instr = c.args.instr.now in
    let old = c.args.self.now in
    let mid = c.ask_all.new.self in
    let is = c.in_ok-ask.ensures.is ∙ ap (instr_ask profile instr) c.contents.ensures.contents in
    some_slider_holds profile instr old mid c.forming_needle.result c.forming_needle.ensures
    (subst (λ (stop : Option Reason). HasAskedAll old mid (conditions_of_instr profile instr) stop) c.in-None.is (c.in_ok-reason.ensures profile instr is))
