use Rattle.std.proofs.Common.{sym, subst, codes, unwrap_or, ◌≡◌, ℤ}
use Rattle.journal_file.specs.CountLines.{IsCount}
use Rattle.journal_file.specs.Profiles.{AreLimits, AreNeedles}
use Rattle.journal_file.proofs.Profiles.{limits_one, needle_kept, needles_one, parts_of, profile_found, same_needle}
use Rattle.journal_file.proofs.profile.profile_of.Goals as goal

pub returns-in-Some-count_of : goal.returns-in-Some-count_of
returns-in-Some-count_of c =
    let n = c.in-Some-needles_of.ensures in
    let low : same_needle c.in-Some-needles_of.low ≡ c.in-Some-needles_of.low = needle_kept c.in-Some-needles_of.low n.first.least n.first.most in
    let high : same_needle c.in-Some-needles_of.high ≡ c.in-Some-needles_of.high = needle_kept c.in-Some-needles_of.high n.second.least n.second.most in
    profile_found c.args.line.now c.in-Some.text.now c.in-Some-needles_of.text.now c.in-Some-limits_of.text.now _ c.in-Some-count_of.float c.in-Some.ensures
    (subst (λ (z : ℤ × ℤ). AreNeedles c.in-Some.text.now z.0 z.1 c.in-Some-needles_of.text.now) (λ i. (sym low i, sym high i)) n) c.in-Some-limits_of.ensures c.in-Some-count_of.ensures c.float_of.ensures.none c.float_of.ensures.some

pub returns-in-None-count_of : goal.returns-in-None-count_of
returns-in-None-count_of c = λ p is.
    let parts = parts_of p c.args.line.now c.in-Some.text.now is c.in-Some.ensures in
    let n = needles_one c.in-Some.text.now _ _ p.low p.high c.in-Some-needles_of.text.now parts.behind c.in-Some-needles_of.ensures parts.needles in
    let l = limits_one c.in-Some-needles_of.text.now _ _ p.rack p.hold c.in-Some-limits_of.text.now parts.last c.in-Some-limits_of.ensures (subst (λ t. AreLimits t p.rack p.hold parts.last) (sym n.2) parts.limits) in
    c.in-None-count_of.ensures (unwrap_or p.float 0) (subst (λ t. IsCount (codes " ") 0 8192 (unwrap_or p.float 0) t) (sym l.2) parts.float)

pub returns-in-None-limits_of : goal.returns-in-None-limits_of
returns-in-None-limits_of c = λ p is.
    let parts = parts_of p c.args.line.now c.in-Some.text.now is c.in-Some.ensures in
    let n = needles_one c.in-Some.text.now _ _ p.low p.high c.in-Some-needles_of.text.now parts.behind c.in-Some-needles_of.ensures parts.needles in
    c.in-None-limits_of.ensures p.rack p.hold parts.last (subst (λ t. AreLimits t p.rack p.hold parts.last) (sym n.2) parts.limits)

pub returns-in-None-needles_of : goal.returns-in-None-needles_of
returns-in-None-needles_of c = λ p is. let parts = parts_of p c.args.line.now c.in-Some.text.now is c.in-Some.ensures in c.in-None-needles_of.ensures p.low p.high parts.behind parts.needles
