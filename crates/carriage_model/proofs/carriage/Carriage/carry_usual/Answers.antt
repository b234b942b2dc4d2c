use Rattle.std.proofs.Common.{is_some, ap, ◌∙◌, sym, arith}
use Rattle.knit_base.specs.Usual.{usual_read}
use Rattle.carriage_model.specs.Carriage.{HasRun}
use Rattle.carriage_model.proofs.CarriageRuns.{InState, standing, run-sound, run-still, on_err-anyhow, made-few, plain-floats, plain-keeps, plain-loops, no_limit_asks_no_floats}
use Rattle.carriage_model.proofs.LawfulLines.{none_from_test, line_has-needles, line_has-room, usual_has-carrier}
use Rattle.carriage_model.proofs.carriage.Carriage.carry_usual.Goals as goal

pub allows-requires-clause-needles : goal.allows-requires-clause-needles
allows-requires-clause-needles c =
    line_has-needles c.args.self.now.profile c.requires.lawful.0 _ _ c.requires.running.3.needles c.requires.lawful.2

pub allows-requires-clause-carrier : goal.allows-requires-clause-carrier
allows-requires-clause-carrier c = usual_has-carrier c.args.self.now.profile c.requires.lawful.0 _ c.requires.lawful.1 c.requires.lawful.2

pub go_over_plain-requires-clause-floats : goal.go_over_plain-requires-clause-floats
go_over_plain-requires-clause-floats c = plain-keeps _ _ _ _ _ c.requires.running.3 c.if-not-self.false

pub go_over_plain-requires-clause-no_loops : goal.go_over_plain-requires-clause-no_loops
go_over_plain-requires-clause-no_loops c = plain-loops _ _ _ _ _ c.requires.running.3 c.if-not-self.false

pub go_over_plain-requires-clause-room : goal.go_over_plain-requires-clause-room
go_over_plain-requires-clause-room c =
    let run : HasRun c.args.self.now.profile c.requires.running.0 c.requires.running.1 c.requires.running.2 c.args.self.now = c.requires.running.3 in
    let at : InState c.args.self.now.profile c.requires.running.1 c.requires.running.2 c.args.self.now =
    standing _ _ _ _ _ run (none_from_test _ c.requires.going) in
    line_has-room c.args.self.now.profile c.requires.lawful.0 _ _ at.state run.lawful c.requires.lawful.2 at.represented
    (c.allows.ensures c.if-not-allows.false at.state at.represented (no_limit_asks_no_floats c.args.self.now.profile c.args.usual at.state (plain-floats _ _ _ _ _ run c.if-not-self.false)))

pub go_over_plain-requires-clause-made : goal.go_over_plain-requires-clause-made
go_over_plain-requires-clause-made c = omega (arith, c.requires.lines, made-few _ _ _ _ _ c.requires.running.3)

pub returns-clause-over : goal.returns-clause-over
returns-clause-over c = λ over profile with_loops first reads here.
    run-sound profile with_loops first reads (usual_read c.args.usual) c.args.self.now c.go_over_plain.new.self here (none_from_test _ c.requires.going)
    (λ s represented. sym (c.allows.ensures c.if-not-allows.false s represented (no_limit_asks_no_floats c.args.self.now.profile c.args.usual s (plain-floats _ _ _ _ _ c.requires.running.3 c.if-not-self.false)))) c.in_ok-go_over_plain.ensures.ok

pub returns-in_err-go_over_plain-clause-err : goal.returns-in_err-go_over_plain-clause-err
returns-in_err-go_over_plain-clause-err c =
    on_err-anyhow c.from_residual.result
    (λ profile with_loops first reads here. run-still profile with_loops first reads c.args.self.now c.go_over_plain.new.self here c.in_err-go_over_plain.ensures.err)

pub returns-clause-going : goal.returns-clause-going
returns-clause-going c = λ over. ap is_some c.in_ok-go_over_plain.ensures.ok.fault ∙ c.requires.going
