use Rattle.std.proofs.Common.{length, sym, subst, refl, arith}
use Rattle.knit_base.specs.Lawful.{IsLawfulRead}
use Rattle.pass_grouping.proofs.Racks.{read-lawful}
use Rattle.file_run.proofs.BodySteps.{carries-out, next-number, next-taken}
use Rattle.file_run.proofs.body_run.BodyRun.take_any.Goals as goal

pub take-requires-clause-lines : goal.take-requires-clause-lines
take-requires-clause-lines g c =
    let here = c.requires.ran.3 in
    omega (arith, c.requires.few, c.requires.ran.2, next-taken _ g.T.Taker.has g.T.Taker.next g.met.T.Taker.counted c.requires.ran.0 c.args.head.now c.requires.ran.1 c.args.self.now here)

pub take-requires-clause-rack : goal.take-requires-clause-rack
take-requires-clause-rack g c =
    read-lawful c.args.self.now.profile (length c.args.head.now.declared) c.in_ok-read.read c.requires.ran.3.ran.lawful c.in_ok-read.ensures.lawful

pub execute-requires-clause-lawful : goal.execute-requires-clause-lawful
execute-requires-clause-lawful g c = (
  length c.args.head.now.declared,
  subst (λ p. IsLawfulRead p (length c.args.head.now.declared) c.in_ok-read.read) (sym c.requires.ran.3.ran.same_profile) c.in_ok-read.ensures.lawful,
)

pub execute-requires-clause-lines : goal.execute-requires-clause-lines
execute-requires-clause-lines g c =
    omega (arith, c.requires.few, c.requires.ran.2, next-number _ g.T.Taker.has c.requires.ran.0 c.args.head.now c.requires.ran.1 c.args.self.now c.requires.ran.3)

pub returns-clause-ok : goal.returns-clause-ok
returns-clause-ok g c =
    carries-out _ g.T.Taker.has c.args.head.now c.args.text.now c.args.start c.in_ok-line.next c.in_ok-line.line.now c.in_ok-read.read c.args.self.now _ c.in_ok-line.ensures.ok c.in_ok-read.ensures.reads
    refl refl c.in_ok-execute.ensures.ok c.in_ok-take.ensures c.in_ok-keep_broken.ensures
