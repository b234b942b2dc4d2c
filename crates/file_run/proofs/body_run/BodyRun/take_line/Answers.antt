use Rattle.std.proofs.Common.{◌≡◌, ◌+◌, ◌<◌, length, sym, subst, refl, ap, ◌∙◌, ◌-◌, drop, arith, OnOk, length-drop}
use Rattle.std.proofs.lemmas.List.{drop-drop, take_all}
use Rattle.knit_base.specs.Lawful.{IsLawfulRead}
use Rattle.knit_base.specs.Usual.{usual_read}
use Rattle.carriage_model.specs.declared.carriage.Carriage.{Carriage}
use Rattle.carriage_model.specs.Carriage.{RanOn, next_carriage_line, profile_of}
use Rattle.file_run.proofs.BrokenLines.{keeps-none}
use Rattle.file_run.proofs.BodySteps.{carries-out, is-running, next-number, next-taken, usual-stands}
use Rattle.file_run.proofs.body_run.BodyRun.take_line.Goals as goal

pub take_usual-requires-clause-lines : goal.take_usual-requires-clause-lines
take_usual-requires-clause-lines g c =
    omega (arith, c.requires.few, c.requires.ran.2, next-taken _ g.T.Taker.has g.T.Taker.next g.met.T.Taker.counted c.requires.ran.0 c.args.head.now c.requires.ran.1 c.args.self.now c.requires.ran.3)

pub take_usual-requires-clause-lawful : goal.take_usual-requires-clause-lawful
take_usual-requires-clause-lawful g c =
    let begins = c.in-Some.ensures c.args.head.now.declared c.requires.ran.3.names in
    (c.args.self.now.profile, length c.args.head.now.declared, begins.few, begins.lawful)

pub carry_usual-requires-clause-lawful : goal.carry_usual-requires-clause-lawful
carry_usual-requires-clause-lawful g c =
    let begins = c.in-Some.ensures c.args.head.now.declared c.requires.ran.3.names in
    (length c.args.head.now.declared, begins.few, subst (λ p. IsLawfulRead p (length c.args.head.now.declared) (usual_read c.in-Some.usual)) (sym c.requires.ran.3.ran.same_profile) begins.lawful)

pub carry_usual-requires-clause-running : goal.carry_usual-requires-clause-running
carry_usual-requires-clause-running g c = is-running _ g.T.Taker.has c.requires.ran.0 c.args.head.now c.requires.ran.1 c.args.self.now c.requires.ran.3

pub carry_usual-requires-clause-lines : goal.carry_usual-requires-clause-lines
carry_usual-requires-clause-lines g c =
    omega (arith, c.requires.few, c.requires.ran.2, next-number _ g.T.Taker.has c.requires.ran.0 c.args.head.now c.requires.ran.1 c.args.self.now c.requires.ran.3)

pub carry_on-requires-clause-lawful : goal.carry_on-requires-clause-lawful
carry_on-requires-clause-lawful g c =
    let begins = c.in-Some.ensures c.args.head.now.declared c.requires.ran.3.names in (
      length c.args.head.now.declared,
      begins.few,
      subst (λ (k : Carriage). IsLawfulRead (profile_of k) (length c.args.head.now.declared) (usual_read c.in-Some.usual)) (sym (c.in_ok-carry_usual.ensures.same c.if-branch.false))
          (subst (λ p. IsLawfulRead p (length c.args.head.now.declared) (usual_read c.in-Some.usual)) (sym c.requires.ran.3.ran.same_profile) begins.lawful),
    )

pub carry_on-requires-clause-lines : goal.carry_on-requires-clause-lines
carry_on-requires-clause-lines g c =
    subst (λ (k : Carriage). next_carriage_line k + 1 < 4294967296) (sym (c.in_ok-carry_usual.ensures.same c.if-branch.false))
    (omega (arith, c.requires.few, c.requires.ran.2, next-number _ g.T.Taker.has c.requires.ran.0 c.args.head.now c.requires.ran.1 c.args.self.now c.requires.ran.3))

pub returns-then-branch-clause-ok : goal.returns-then-branch-clause-ok
returns-then-branch-clause-ok g c =
    let begins = c.in-Some.ensures c.args.head.now.declared c.requires.ran.3.names in
    let stands = usual-stands 32 c.args.self.now.profile c.args.head.now.declared c.args.text.now _ c.args.start c.in-Some.len c.in-Some.usual (omega arith) refl begins in
    carries-out _ g.T.Taker.has c.args.head.now c.args.text.now c.args.start _ begins.line (usual_read c.in-Some.usual) c.args.self.now _ stands begins.read
    refl refl (c.in_ok-carry_usual.ensures.over c.if-branch.true) c.in_ok-take_usual.ensures (keeps-none _ _ begins.line (c.in_ok-carry_usual.ensures.going c.if-branch.true))

pub returns-clause-ok : goal.returns-clause-ok
returns-clause-ok g c =
    let begins = c.in-Some.ensures c.args.head.now.declared c.requires.ran.3.names in
    let stands = usual-stands 32 c.args.self.now.profile c.args.head.now.declared c.args.text.now _ c.args.start c.in-Some.len c.in-Some.usual (omega arith) refl begins in
    carries-out _ g.T.Taker.has c.args.head.now c.args.text.now c.args.start _ begins.line (usual_read c.in-Some.usual) c.args.self.now _ stands begins.read
    refl refl (subst (λ (k : Carriage). RanOn (usual_read c.in-Some.usual) k c.carry_on.new.carriage) (c.in_ok-carry_usual.ensures.same c.if-branch.false) c.in_ok-carry_on.ensures) c.in_ok-take_usual.ensures (c.in_ok-keep_broken_at.ensures.ok begins.line _ stands)
