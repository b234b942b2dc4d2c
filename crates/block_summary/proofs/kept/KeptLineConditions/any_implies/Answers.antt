use Rattle.face_data.specs.Conditions.Ask.{size_at_most}
use Rattle.block_summary.proofs.KeptConditions.{says_next, says_here, says_nothing, says_of_kept}
use Rattle.block_summary.proofs.kept.KeptLineConditions.any_implies.Goals as goal

pub returns-then-implies_size : goal.returns-then-implies_size
returns-then-implies_size c =
    let names = c.self.inside.names.items in
    let q = size_at_most c.args.needles.now c.args.most in
    says_of_kept names c.self.inside.checks.items c.deref-check-items.result.now c.args.self.now q _ c.deref-check-items.ensures.value c.self.view_is
    (says_here names c.deref.result.now c.deref-check-items.result.now c.loop-check.check-index _ q c.implies_size.result c.deref.ensures.value c.loop-check-test.true c.implies_size.ensures c.if-implies_size.true
    c.loop-check.invariant)

pub loop-check-preserved : goal.loop-check-preserved
loop-check-preserved c =
    let names = c.self.inside.names.items in
    let q = size_at_most c.args.needles.now c.args.most in
    says_next names c.deref.result.now c.deref-check-items.result.now c.loop-check.check-index _ q c.implies_size.result c.deref.ensures.value c.loop-check-test.true c.implies_size.ensures c.if-implies_size.false
    c.loop-check.invariant

pub returns : goal.returns
returns c =
    let names = c.self.inside.names.items in
    let q = size_at_most c.args.needles.now c.args.most in
    says_of_kept names c.self.inside.checks.items c.deref-check-items.result.now c.args.self.now q _ c.deref-check-items.ensures.value c.self.view_is
    (says_nothing names c.deref-check-items.result.now c.loop-check.check-index q c.loop-check-test.false c.loop-check.invariant)
