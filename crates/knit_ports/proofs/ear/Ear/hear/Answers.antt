use Rattle.std.proofs.Common.{length, ap, refl, arith}
use Rattle.std.proofs.lemmas.List.{length-take}
use Rattle.knit_ports.specs.Ears.{EarView, kept_limit}
use Rattle.knit_ports.proofs.HeardLines.{hearing-ends, hearing-fails, hearing-goes, hearing-last, hearing-starts, hearing-waits, on_err-anyhow}
use Rattle.knit_ports.proofs.ear.Ear.hear.Goals as goal

pub hearing-init : goal.hearing-init
hearing-init g c = hearing-starts _ _ _ _ (ap (λ (v : EarView). v.pending) c.self.view_is) c.clear.ensures.items

pub take_line-requires : goal.take_line-requires
take_line-requires g c = omega (arith, ap length c.hearing.invariant.kept, length-take kept_limit c.hearing.invariant.front)

pub returns-then-take_line-clause-heard : goal.returns-then-take_line-clause-heard
returns-then-take_line-clause-heard g c =
    let f = c.if-take_line.ensures.found refl in
    hearing-ends _ _ _ _ _ _ _ _ f.0 c.hearing.invariant f.1 f.2 f.3

pub returns-in_err-refill-clause-front : goal.returns-in_err-refill-clause-front
returns-in_err-refill-clause-front g c =
    let n = c.if-take_line.ensures.none refl in
    on_err-anyhow c.from_residual.result (hearing-fails _ _ _ _ c.take_line.new.self _ _ _ _ (hearing-goes _ _ _ _ c.take_line.new.self _ _ _ c.hearing.invariant n.0 n.1 n.2) n.1
    c.in_err-refill.ensures.failed c.in_err-refill.ensures.lost c.refill.ensures.line)

pub returns-then-not-branch-clause-heard : goal.returns-then-not-branch-clause-heard
returns-then-not-branch-clause-heard g c =
    let n = c.if-take_line.ensures.none refl in
    hearing-last _ _ _ _ c.take_line.new.self _ _ _ _ (hearing-goes _ _ _ _ c.take_line.new.self _ _ _ c.hearing.invariant n.0 n.1 n.2) n.1
    c.in_ok-refill.ensures.told (c.in_ok-refill.ensures.end c.if-not-branch.true) c.refill.ensures.line

pub hearing-preserved : goal.hearing-preserved
hearing-preserved g c =
    let n = c.if-take_line.ensures.none refl in
    hearing-waits _ _ _ _ c.take_line.new.self _ _ _ _ _ (hearing-goes _ _ _ _ c.take_line.new.self _ _ _ c.hearing.invariant n.0 n.1 n.2) n.1
    c.in_ok-refill.ensures.told (c.in_ok-refill.ensures.some c.if-not-branch.false) c.refill.ensures.line c.in_ok-refill.ensures.calm
