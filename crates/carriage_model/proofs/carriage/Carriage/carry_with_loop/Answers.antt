use Rattle.std.proofs.Common.{◌∙◌, sym, refl, arith}
use Rattle.knit_base.specs.Usual.{usual_read}
use Rattle.carriage_model.specs.Carriage.{HasRun}
use Rattle.carriage_model.proofs.CarriageRuns.{InState, standing, run-stopped, run-sound, run-still, on_err-anyhow, kept-few, made-few}
use Rattle.carriage_model.proofs.LawfulLines.{none_from_test, line_has-needles, line_has-room, usual_has-carrier}
use Rattle.carriage_model.proofs.carriage.Carriage.carry_with_loop.Goals as goal

pub returns-then-is_stopped-clause-over : goal.returns-then-is_stopped-clause-over
returns-then-is_stopped-clause-over c = λ over profile with_loops first reads here.
    run-stopped profile with_loops first reads (usual_read c.args.usual) c.args.self.now _ here refl (sym c.is_stopped.ensures ∙ c.if-is_stopped.true)

pub allows-requires-clause-needles : goal.allows-requires-clause-needles
allows-requires-clause-needles c =
    line_has-needles c.args.self.now.profile c.requires.lawful.0 _ _ c.requires.running.3.needles c.requires.lawful.2

pub allows-requires-clause-carrier : goal.allows-requires-clause-carrier
allows-requires-clause-carrier c = usual_has-carrier c.args.self.now.profile c.requires.lawful.0 _ c.requires.lawful.1 c.requires.lawful.2

pub go_over_usual-requires-clause-room : goal.go_over_usual-requires-clause-room
go_over_usual-requires-clause-room c =
    let run : HasRun c.args.self.now.profile c.requires.running.0 c.requires.running.1 c.requires.running.2 c.args.self.now = c.requires.running.3 in
    let at : InState c.args.self.now.profile c.requires.running.1 c.requires.running.2 c.args.self.now =
    standing _ _ _ _ _ run (none_from_test _ (sym c.is_stopped.ensures ∙ c.if-is_stopped.false)) in
    line_has-room c.args.self.now.profile c.requires.lawful.0 _ _ at.state run.lawful c.requires.lawful.2 at.represented
    (c.allows.ensures c.if-not-allows.false at.state at.represented (c.allows_float.ensures c.if-not-allows_float.false at.state at.represented))

pub go_over_usual-requires-clause-made : goal.go_over_usual-requires-clause-made
go_over_usual-requires-clause-made c = omega (arith, c.requires.lines, made-few _ _ _ _ _ c.requires.running.3)

pub go_over_usual-requires-clause-loops : goal.go_over_usual-requires-clause-loops
go_over_usual-requires-clause-loops c = kept-few _ _ _ _ _ 4294967296 c.requires.running.3 (omega (arith, c.requires.lines))

pub returns-clause-over : goal.returns-clause-over
returns-clause-over c = λ over profile with_loops first reads here.
    run-sound profile with_loops first reads (usual_read c.args.usual) c.args.self.now c.go_over_usual.new.self here (none_from_test _ (sym c.is_stopped.ensures ∙ c.if-is_stopped.false))
    (λ s represented. sym (c.allows.ensures c.if-not-allows.false s represented (c.allows_float.ensures c.if-not-allows_float.false s represented))) c.in_ok-go_over_usual.ensures.ok

pub returns-in_err-go_over_usual-clause-err : goal.returns-in_err-go_over_usual-clause-err
returns-in_err-go_over_usual-clause-err c =
    on_err-anyhow c.from_residual.result
    (λ profile with_loops first reads here. run-still profile with_loops first reads c.args.self.now c.go_over_usual.new.self here c.in_err-go_over_usual.ensures.err)
