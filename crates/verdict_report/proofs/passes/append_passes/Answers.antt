use Rattle.verdict_report.proofs.PassLines.{passes-all, passes-more}
use Rattle.verdict_report.proofs.passes.append_passes.Goals as goal

pub loop-k-preserved : goal.loop-k-preserved
loop-k-preserved c =
    passes-more c.args.declared.now c.args.ops.now c.args.starts.now c.loop-k.k c.args.out.now.items c.loop-k.out.items c.append_pass.new.out.items c.pass_at.result.now c.loop-k-test.true
    c.pass_at.ensures c.loop-k.invariant c.in_ok-append_pass.ensures

pub returns : goal.returns
returns c = passes-all c.args.declared.now c.args.ops.now c.args.starts.now c.loop-k.k c.args.out.now.items c.loop-k.out.items c.loop-k-test.false c.loop-k.invariant
