use Rattle.std.proofs.Common.{◌<◌, ◌≤◌, ◌++◌, ◌∷◌, [], length, arith}
use Rattle.knitout_writer.specs.Canonical.{IsCanonicalLine}
use Rattle.knitout_writer.proofs.Bodies.{lines-more, fed-more}
use Rattle.knitout_writer.proofs.text.append_body.Goals as goal

pub loop-i-preserved : goal.loop-i-preserved
loop-i-preserved c =
    let written = c.in_ok-append_body_line.ensures in
    let after : c.args.head.now.lines ≤ c.loop-i.i = omega arith in
    let within : c.loop-i.i < length c.args.lines.now = omega arith in (
      c.loop-i.invariant.0 ++ written.0 ∷ [],
      lines-more (IsCanonicalLine c.args.profile.now c.args.head.now.declared) c.args.lines.now c.loop-i.invariant.0 c.args.head.now.lines c.loop-i.i c.nth_line.result.now written.0
          after within c.nth_line.ensures.text written.1 c.loop-i.invariant.1,
      fed-more c.args.out.now.items c.push.new.self.items c.append_body_line.new.out.items c.loop-i.out.items c.loop-i.invariant.0 written.0 c.loop-i.invariant.2 written.2 c.in_ok-push.ensures.items,
    )
