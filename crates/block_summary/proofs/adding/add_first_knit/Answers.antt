use Rattle.std.proofs.Common.{◌≡◌, ◌+◌, [], ◌∷◌, Option, None, OnOk, length, ap, ◌∙◌, refl, subst, arith}
use Rattle.std.proofs.lemmas.Result.{IfOk-weaker}
use Rattle.knit_base.specs.declared.instr.Instr.TheVariants.{Knit}
use Rattle.knit_base.specs.declared.instr.Read.TheVariants as read
use Rattle.knit_base.specs.declared.rule.Reason.{Reason}
use Rattle.knit_base.specs.declared.usual.Usual.TheVariants as usual
use Rattle.face_data.specs.Summaries.{Summary}
use Rattle.block_summary.specs.DraftKnowledge.{HasAskedAll}
use Rattle.block_summary.specs.LineSummaries.{conditions_of_instr}
use Rattle.block_summary.proofs.AskedHold.{slider_asked_holds}
use Rattle.block_summary.proofs.Blocks.{rows_wider, stops_lines}
use Rattle.block_summary.proofs.KnownKnits.{adds_after, known_adds, known_lines, known_rows, lines_after, not_known, rows_along, stops_first}
use Rattle.block_summary.proofs.adding.add_first_knit.Goals as goal

pub returns-in-Some : goal.returns-in-Some
returns-in-Some c =
    let profile = c.args.setting.now.profile in
    let instr = Knit c.args.dir c.args.n (c.args.c ∷ []) in
    let old = c.args.draft.now in
    let mid = c.ask_usual_knit.new.self in
    let asked = subst (λ (stop : Option Reason). HasAskedAll old mid (conditions_of_instr profile instr) stop) c.in-Some.is (c.in_ok-reason.ensures profile c.args.dir c.requires.floats) in
    let adds = stops_first profile (length c.args.setting.now.declared) instr old mid c.stop.new.self c.args.loops.now c.in-Some.reason c.stop.result c.stop.ensures.through c.requires.lawful asked
    c.stop.ensures.fault c.stop.ensures.line in
    let lines = stops_lines profile (read.Instr instr) old c.stop.new.self c.stop.result adds.added.0 in
    record { added = adds; lines = lines; rows = rows_wider old.lines c.stop.new.self.lines c.args.loops.now lines c.requires.rows }

pub stop-requires : goal.stop-requires
stop-requires c =
    let same : c.ask_usual_knit.new.self.lines ≡ c.args.draft.now.lines =
    lines_after c.args.draft.now c.ask_usual_knit.new.self c.args.setting.now.profile (Knit c.args.dir c.args.n (c.args.c ∷ [])) c.in_ok-reason.field-0 (c.in_ok-reason.ensures c.args.setting.now.profile c.args.dir c.requires.floats) in
    omega (arith, same, c.requires.few)

pub note_bare-requires : goal.note_bare-requires
note_bare-requires c =
    let instr = Knit c.args.dir c.args.n (c.args.c ∷ []) in
    slider_asked_holds c.args.setting.now.profile instr c.args.draft.now c.ask_usual_knit.new.self c.args.n refl
    (subst (λ (stop : Option Reason). HasAskedAll c.args.draft.now c.ask_usual_knit.new.self (conditions_of_instr c.args.setting.now.profile instr) stop) c.in_default.is (c.in_ok-reason.ensures c.args.setting.now.profile c.args.dir c.requires.floats))

pub add_knit-requires-clause-few : goal.add_knit-requires-clause-few
add_knit-requires-clause-few c =
    let same : c.note_bare.new.self.lines ≡ c.args.draft.now.lines =
    ap (λ (s : Summary). s.lines) c.note_bare.ensures.same
    ∙ lines_after c.args.draft.now c.ask_usual_knit.new.self c.args.setting.now.profile (Knit c.args.dir c.args.n (c.args.c ∷ [])) c.in_ok-reason.field-0 (c.in_ok-reason.ensures c.args.setting.now.profile c.args.dir c.requires.floats) in
    omega (arith, same, c.requires.few)

pub add_knit-requires-clause-rows : goal.add_knit-requires-clause-rows
add_knit-requires-clause-rows c =
    rows_along c.args.draft.now.lines c.note_bare.new.self.lines c.args.loops.now c.args.loops.now
    (ap (λ (s : Summary). s.lines) c.note_bare.ensures.same
    ∙ lines_after c.args.draft.now c.ask_usual_knit.new.self c.args.setting.now.profile (Knit c.args.dir c.args.n (c.args.c ∷ [])) c.in_ok-reason.field-0 (c.in_ok-reason.ensures c.args.setting.now.profile c.args.dir c.requires.floats)) refl c.requires.rows

pub returns-then-branch : goal.returns-then-branch
returns-then-branch c =
    let profile = c.args.setting.now.profile in
    let carriers = length c.args.setting.now.declared in
    let instr = Knit c.args.dir c.args.n (c.args.c ∷ []) in
    let old = c.args.draft.now in
    let mid = c.ask_usual_knit.new.self in
    let now = c.note_bare.new.self in
    let new = c.add_knit.new.draft in
    let rows = c.args.loops.now in
    let more = c.add_knit.new.loops in
    let known = c.in_ok-add_knit.field-0 in
    let asked = subst (λ (stop : Option Reason). HasAskedAll old mid (conditions_of_instr profile instr) stop) c.in_default.is (c.in_ok-reason.ensures profile c.args.dir c.requires.floats) in
    let adds = known_adds profile carriers (usual.Knit c.args.dir c.args.n c.args.c) c.args.dir c.args.n c.args.c known now new rows more refl c.requires.floats c.requires.lawful c.if-branch.true c.in_ok-add_knit.ensures in
    let counted = ap (λ (s : Summary). s.lines) c.note_bare.ensures.same ∙ lines_after old mid profile instr None asked in
    record {
      added = adds_after profile carriers instr old mid now new rows rows more None c.note_bare.ensures.same refl c.note_bare.ensures.through asked adds;
      lines = known_lines profile c.args.dir c.args.n c.args.c known now new rows more c.requires.floats c.if-branch.true c.in_ok-add_knit.ensures ∙ ap (λ k. k + 1) counted;
      rows = known_rows profile c.args.dir c.args.n c.args.c known now new rows more c.requires.floats c.if-branch.true c.in_ok-add_knit.ensures (rows_along old.lines now.lines rows rows counted refl c.requires.rows);
    }

pub add_reading-requires-clause-few : goal.add_reading-requires-clause-few
add_reading-requires-clause-few c =
    let same : c.add_knit.new.draft.lines ≡ c.args.draft.now.lines =
    ap (λ (s : Summary). s.lines)
    ((not_known c.args.dir c.args.n c.args.c c.in_ok-add_knit.field-0 c.note_bare.new.self c.add_knit.new.draft c.args.loops.now c.add_knit.new.loops c.if-branch.false c.in_ok-add_knit.ensures).0
    ∙ c.note_bare.ensures.same)
    ∙ lines_after c.args.draft.now c.ask_usual_knit.new.self c.args.setting.now.profile (Knit c.args.dir c.args.n (c.args.c ∷ [])) c.in_ok-reason.field-0 (c.in_ok-reason.ensures c.args.setting.now.profile c.args.dir c.requires.floats) in
    omega (arith, same, c.requires.few)

pub add_reading-requires-clause-rows : goal.add_reading-requires-clause-rows
add_reading-requires-clause-rows c =
    let none = not_known c.args.dir c.args.n c.args.c c.in_ok-add_knit.field-0 c.note_bare.new.self c.add_knit.new.draft c.args.loops.now c.add_knit.new.loops c.if-branch.false c.in_ok-add_knit.ensures in
    rows_along c.args.draft.now.lines c.add_knit.new.draft.lines c.args.loops.now c.add_knit.new.loops
    (ap (λ (s : Summary). s.lines) (none.0 ∙ c.note_bare.ensures.same)
    ∙ lines_after c.args.draft.now c.ask_usual_knit.new.self c.args.setting.now.profile (Knit c.args.dir c.args.n (c.args.c ∷ [])) c.in_ok-reason.field-0 (c.in_ok-reason.ensures c.args.setting.now.profile c.args.dir c.requires.floats)) none.1 c.requires.rows

pub returns-clause-added : goal.returns-clause-added
returns-clause-added c =
    let profile = c.args.setting.now.profile in
    let carriers = length c.args.setting.now.declared in
    let instr = Knit c.args.dir c.args.n (c.args.c ∷ []) in
    let old = c.args.draft.now in
    let mid = c.ask_usual_knit.new.self in
    let none = not_known c.args.dir c.args.n c.args.c c.in_ok-add_knit.field-0 c.note_bare.new.self c.add_knit.new.draft c.args.loops.now c.add_knit.new.loops c.if-branch.false c.in_ok-add_knit.ensures in
    let asked = subst (λ (stop : Option Reason). HasAskedAll old mid (conditions_of_instr profile instr) stop) c.in_default.is (c.in_ok-reason.ensures profile c.args.dir c.requires.floats) in
    IfOk-weaker c.add_reading.result _ _
    (λ stop adds.
    adds_after profile carriers instr old mid c.add_knit.new.draft c.add_reading.new.draft c.args.loops.now c.add_knit.new.loops c.add_reading.new.loops stop (none.0 ∙ c.note_bare.ensures.same) none.1
    c.note_bare.ensures.through asked adds)
    c.add_reading.ensures.added

pub returns-clause-lines : goal.returns-clause-lines
returns-clause-lines c =
    let none = not_known c.args.dir c.args.n c.args.c c.in_ok-add_knit.field-0 c.note_bare.new.self c.add_knit.new.draft c.args.loops.now c.add_knit.new.loops c.if-branch.false c.in_ok-add_knit.ensures in
    subst (λ k. OnOk c.add_reading.result (c.add_reading.new.draft.lines ≡ k + 1))
    (ap (λ (s : Summary). s.lines) (none.0 ∙ c.note_bare.ensures.same)
    ∙ lines_after c.args.draft.now c.ask_usual_knit.new.self c.args.setting.now.profile (Knit c.args.dir c.args.n (c.args.c ∷ [])) c.in_ok-reason.field-0 (c.in_ok-reason.ensures c.args.setting.now.profile c.args.dir c.requires.floats)) c.add_reading.ensures.lines
