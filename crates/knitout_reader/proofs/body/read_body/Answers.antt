use Rattle.std.proofs.Common.{◌<◌, length, sym, arith}
use Rattle.knit_base.specs.Lawful.{IsLawfulRead}
use Rattle.knitout_reader.specs.Reading.{ReadsAs}
use Rattle.knitout_reader.proofs.BodyReadings.{read-more}
use Rattle.knitout_reader.proofs.body.read_body.Goals as goal

pub loop-i-preserved : goal.loop-i-preserved
loop-i-preserved c =
    let within : c.loop-i.i < length c.args.lines.now = omega (arith, c.loop-i-test.true, c.len-count.ensures.len) in
    read-more (λ line r. ReadsAs c.args.profile.now c.args.declared.now line r) (IsLawfulRead c.args.profile.now (length c.args.declared.now)) c.args.lines.now c.args.from c.loop-i.i c.loop-i.reads _ c.in-Some.line.now _
    c.loop-i.invariant within (sym c.in-Some.ensures.found) c.in_ok-read_line.ensures.reads c.in_ok-read_line.ensures.lawful c.in_ok-push.ensures.ok
