use Rattle.std.proofs.Common.{arith}
use Rattle.journal_file.proofs.Profiles.{limit_one, limits_behind}
use Rattle.journal_file.proofs.profile.limits_of.Goals as goal

pub returns-then-hold-eq0 : goal.returns-then-hold-eq0
returns-then-hold-eq0 c = λ rack hold rest it.
    let w = limits_behind c.args.text.now c.in-Some.rack c.in-Some.other.now c.in-Some.ensures rack hold rest it in
    let same = limit_one c.in-Some.other.now c.in-Some-limit.hold hold c.in-Some-limit.rest.now rest c.in-Some-limit.ensures w.1 in
    omega (arith, same.0, it.some, c.if-hold-eq0.true)

pub returns-in-None-limit : goal.returns-in-None-limit
returns-in-None-limit c = λ rack hold rest it. c.in-None-limit.ensures hold rest (limits_behind c.args.text.now c.in-Some.rack c.in-Some.other.now c.in-Some.ensures rack hold rest it).1
