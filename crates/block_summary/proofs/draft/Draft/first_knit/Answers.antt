use Rattle.std.proofs.Common.{Option, Some, sym, ◌∙◌, subst, arith, refl, ◌-◌, ◌<◌, ◌≤◌, ◌^◌, length}
use Rattle.std.proofs.lemmas.Option.{MatchOption-at_none, MatchOption-at_some}
use Rattle.std.proofs.lemmas.Result.{IfOk-weaker}
use Rattle.knit_base.specs.declared.instr.Instr.{Instr}
use Rattle.knit_base.specs.declared.instr.Instr.TheVariants.{Knit}
use Rattle.knit_base.specs.declared.instr.Read.TheVariants as read
use Rattle.knit_base.specs.declared.rule.Reason.{Reason}
use Rattle.face_data.specs.Summaries.{Summary}
use Rattle.block_summary.specs.declared.line.DraftedLineEnd.TheVariants.{GoesOn}
use Rattle.block_summary.specs.DraftKnowledge.{AreNearIn, HasAskedAll, stopped_at}
use Rattle.block_summary.specs.LineEnds.{EndsAs}
use Rattle.block_summary.specs.LineSummaries.{conditions_of_instr}
use Rattle.block_summary.proofs.AskedHold.{ends_after_asking, near_after, slider_asked_holds}
use Rattle.block_summary.proofs.KnitSteps.{knit_forms, lines_before, through_before}
use Rattle.block_summary.proofs.LineSteps.{early_can, line_stops}
use Rattle.block_summary.proofs.draft.Draft.first_knit.Goals as goal

pub ask_knit-requires-clause-can : goal.ask_knit-requires-clause-can
ask_knit-requires-clause-can c = let lawful = c.requires.lawful in early_can c.args.profile.now lawful.0 c.args.instr.now lawful.1 lawful.2

pub ask_knit-requires-clause-knit : goal.ask_knit-requires-clause-knit
ask_knit-requires-clause-knit c = (c.args.dir, c.requires.knit)

pub returns-in-Some : goal.returns-in-Some
returns-in-Some c =
    let profile = c.args.profile.now in
    let instr = c.args.instr.now in
    let old = c.args.self.now in
    let mid = c.ask_knit.new.self in
    let asked = subst (λ (stop : Option Reason). HasAskedAll old mid (conditions_of_instr profile instr) stop) c.in-Some.is c.in_ok-reason.ensures in
    line_stops profile instr old mid c.in-Some.reason (through_before old mid asked.rest_stays c.stop.ensures.through) asked
    ∙ (λ i. stopped_at (sym c.stop.ensures.fault i) (sym c.stop.ensures.line i))

pub note_bare-requires : goal.note_bare-requires
note_bare-requires c =
    let profile = c.args.profile.now in
    let instr = c.args.instr.now in
    let some : 1 ≤ length c.args.yarns.now = omega (arith, c.len.ensures, c.if-len-eq0.false) in
    slider_asked_holds profile instr c.args.self.now c.ask_knit.new.self c.args.n (knit_forms instr c.args.dir c.args.n c.args.yarns.now c.requires.knit some)
    (subst (λ (stop : Option Reason). HasAskedAll c.args.self.now c.ask_knit.new.self (conditions_of_instr profile instr) stop) c.in_default.is c.in_ok-reason.ensures)

pub stop-requires : goal.stop-requires
stop-requires c = lines_before c.args.self.now c.ask_knit.new.self c.in_ok-reason.ensures.rest_stays c.requires.few

pub usual_knit-requires-clause-few : goal.usual_knit-requires-clause-few
usual_knit-requires-clause-few c =
    subst (λ (s : Summary). s.lines < 2 ^ 32 - 1) (sym c.note_bare.ensures.same) (lines_before c.args.self.now c.ask_knit.new.self c.in_ok-reason.ensures.rest_stays c.requires.few)

pub any_instr-requires-in-None-clause-few : goal.any_instr-requires-in-None-clause-few
any_instr-requires-in-None-clause-few c =
    subst (λ (s : Summary). s.lines < 2 ^ 32 - 1) (sym (MatchOption-at_none _ _ c.in-None.is c.in_ok-formed.ensures ∙ c.note_bare.ensures.same))
    (lines_before c.args.self.now c.ask_knit.new.self c.in_ok-reason.ensures.rest_stays c.requires.few)

pub returns-in-Some-2 : goal.returns-in-Some-2
returns-in-Some-2 c =
    let profile = c.args.profile.now in
    let instr = c.args.instr.now in
    let old = c.args.self.now in
    let mid = c.ask_knit.new.self in
    let new = c.usual_knit.new.self in
    let formed = c.in-Some-2.formed in
    let asked = subst (λ (stop : Option Reason). HasAskedAll old mid (conditions_of_instr profile instr) stop) c.in_default.is c.in_ok-reason.ensures in
    let ends = MatchOption-at_some _ _ formed c.in-Some-2.is c.in_ok-formed.ensures in
    let near : AreNearIn c.note_bare.new.self profile.float c.args.n c.args.yarns.now =
    subst (λ (s : Summary). AreNearIn s profile.float c.args.n c.args.yarns.now) (sym c.note_bare.ensures.same)
    (near_after old mid (conditions_of_instr profile instr) profile.float c.args.n c.args.yarns.now asked c.requires.near) in
    ends_after_asking profile instr old mid new (GoesOn (Some formed)) (through_before old mid asked.rest_stays c.note_bare.ensures.through) asked
    (subst (λ (i : Instr). EndsAs profile (read.Instr i) mid new (GoesOn (Some formed))) (sym c.requires.knit)
    (subst (λ (s : Summary). EndsAs profile (read.Instr (Knit c.args.dir c.args.n c.args.yarns.now)) s new (GoesOn (Some formed))) c.note_bare.ensures.same (ends profile refl near)))

pub returns-in-None : goal.returns-in-None
returns-in-None c =
    let profile = c.args.profile.now in
    let instr = c.args.instr.now in
    let old = c.args.self.now in
    let mid = c.ask_knit.new.self in
    let new = c.any_instr-in-None.new.self in
    let asked = subst (λ (stop : Option Reason). HasAskedAll old mid (conditions_of_instr profile instr) stop) c.in_default.is c.in_ok-reason.ensures in
    let same = MatchOption-at_none _ _ c.in-None.is c.in_ok-formed.ensures ∙ c.note_bare.ensures.same in
    IfOk-weaker c.any_instr-in-None.result _ _
    (λ end ends.
    ends_after_asking profile instr old mid new end (through_before old mid asked.rest_stays c.note_bare.ensures.through) asked
    (subst (λ (s : Summary). EndsAs profile (read.Instr instr) s new end) same ends))
    c.any_instr-in-None.ensures
