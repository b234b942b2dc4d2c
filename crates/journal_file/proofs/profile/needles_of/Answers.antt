use Rattle.std.proofs.Common.{arith}
use Rattle.std.proofs.lemmas.Int.{ints}
use Rattle.journal_file.proofs.Profiles.{needle_one, needles_behind, needles_high}
use Rattle.journal_file.proofs.profile.needles_of.Goals as goal

pub returns-then-high-low : goal.returns-then-high-low
returns-then-high-low c = λ low high rest it.
    let w = needles_high c.args.text.now c.in-Some.rest.now c.in-Some-behind.other.now c.in-Some.low c.in-Some.ensures c.in-Some-behind.ensures low high rest it in
    let same = needle_one c.in-Some-behind.other.now c.in-Some-needle.high high c.in-Some-needle.rest.now rest c.in-Some-needle.ensures w.1 in
    omega (arith, ints, w.0, same.0, it.ordered, c.if-high-low.true)

pub returns-in-None-needle : goal.returns-in-None-needle
returns-in-None-needle c = λ low high rest it.
    c.in-None-needle.ensures high rest (needles_high c.args.text.now c.in-Some.rest.now c.in-Some-behind.other.now c.in-Some.low c.in-Some.ensures c.in-Some-behind.ensures low high rest it).1

pub returns-in-None-behind : goal.returns-in-None-behind
returns-in-None-behind c = λ low high rest it. c.in-None-behind.ensures it.behind (needles_behind c.args.text.now c.in-Some.low c.in-Some.rest.now c.in-Some.ensures low high rest it).1
