use Rattle.std.proofs.Common.{arith}
use Rattle.journal_file.proofs.CountLines.{count-is, count-none}
use Rattle.journal_file.proofs.counts.count_of.Goals as goal

pub returns-in-None : goal.returns-in-None
returns-in-None c = λ m count. count-none c.args.line.now c.args.label.now c.args.least c.args.most c.ranges.most.fits c.in-None.ensures m count

pub returns-then-rest-gt0 : goal.returns-then-rest-gt0
returns-then-rest-gt0 c = λ m count.
    let w = count-is c.args.line.now c.args.label.now _ c.args.least c.args.most c.in-Some.number m c.ranges.most.fits c.in-Some.ensures count in
    omega (arith, w.1, c.if-rest-gt0.true)

pub returns-then-number-least : goal.returns-then-number-least
returns-then-number-least c = λ m count.
    let w = count-is c.args.line.now c.args.label.now _ c.args.least c.args.most c.in-Some.number m c.ranges.most.fits c.in-Some.ensures count in
    omega (arith, w.0, count.enough, c.if-number-least.true)

pub returns-then-number-most : goal.returns-then-number-most
returns-then-number-most c = λ m count.
    let w = count-is c.args.line.now c.args.label.now _ c.args.least c.args.most c.in-Some.number m c.ranges.most.fits c.in-Some.ensures count in
    omega (arith, w.0, count.few, c.if-number-most.true)
