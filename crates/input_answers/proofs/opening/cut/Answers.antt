use Rattle.std.proofs.Common.{◌≡◌, ◌+◌, ◌-◌, ◌<◌, ℕ, min, [], rules, arith, length, subst, sym}
use Rattle.input_answers.specs.Openings.{IsCut}
use Rattle.input_answers.proofs.Openings.{cut_more, cut_none}
use Rattle.input_answers.proofs.opening.cut.Goals as goal

pub loop-start-init : goal.loop-start-init
loop-start-init c =
    let none : c.new-texts.result.items ≡ [] = search rules in
    subst (IsCut c.args.size c.args.text.now c.args.from c.args.from) (sym none) (cut_none c.args.size c.args.text.now c.args.from c.requires.inside)

pub loop-start-preserved : goal.loop-start-preserved
loop-start-preserved c =
    let left : c.loop-start.start < length c.args.text.now = omega (arith, c.loop-start-test.true, c.len-count.ensures.len) in
    let reached : c.loop-start.start + c.min.result ≡ c.loop-start.start + min c.args.size (length c.args.text.now - c.loop-start.start) = omega (arith, c.min.ensures, c.len-count.ensures.len) in
    cut_more c.args.size c.args.text.now c.args.from c.loop-start.start (c.loop-start.start + c.min.result) c.loop-start.texts.items c.add_text.new.texts.items
    c.requires.size.some left reached c.loop-start.invariant c.in_ok-add_text.ensures

pub returns : goal.returns
returns c =
    let here = c.loop-start.invariant in
    let all : c.loop-start.start ≡ length c.args.text.now = omega (arith, c.loop-start-test.false, c.len-count.ensures.len, here.inside) in
    subst (λ (to : ℕ). IsCut c.args.size c.args.text.now c.args.from to c.loop-start.texts.items) all here
