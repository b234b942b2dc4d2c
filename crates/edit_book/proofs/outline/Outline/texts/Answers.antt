use Rattle.std.proofs.Common.{arith}
use Rattle.edit_book.proofs.OutlineTexts.{taken_kept}
use Rattle.edit_book.proofs.outline.Outline.texts.Goals as goal

pub returns-clause-short : goal.returns-clause-short
returns-clause-short c =
    let w = c.args.self.now in
    (taken_kept w.opening w.entries c.loop-at.at c.len-at-end.result c.loop-at.texts.items c.ids-ids.ensures.lawful c.loop-at.invariant.all c.loop-at.invariant.taken (omega (arith, c.loop-at-test.false))).short

pub returns-clause-lines : goal.returns-clause-lines
returns-clause-lines c =
    let w = c.args.self.now in
    (taken_kept w.opening w.entries c.loop-at.at c.len-at-end.result c.loop-at.texts.items c.ids-ids.ensures.lawful c.loop-at.invariant.all c.loop-at.invariant.taken (omega (arith, c.loop-at-test.false))).lines
