use Rattle.std.proofs.Common.{List, ℕ, take, arith, refl, subst}
use Rattle.std.proofs.KnownBytes.{Keeps-refl}
use Rattle.line_cutter.specs.Cut.{IsFirstBadBehind}
use Rattle.knit_base.specs.Lines.{lines_of}
use Rattle.knit_ports.specs.WholeLines.{AreWholeLines}
use Rattle.knit_ports.proofs.HeardLines.{on_err-anyhow}
use Rattle.knit_ports.proofs.FileReadings.{TakesMore, reading-gave, reading-gave-more, reading-long, reading-long-behind, reading-more, reading-passes, reading-refused, reading-refused-behind, reading-taken, taken-few}
use Rattle.knit_ports.proofs.file_reading.read_on.Goals as goal

pub returns-then-is_past_limit-clause-read : goal.returns-then-is_past_limit-clause-read
returns-then-is_past_limit-clause-read g c =
    let so_far = reading-more _ _ _ _ _ _ _ _ _ _ _ _ _ _ _ _ c.reading.invariant.0 c.in_ok-given.ensures.ok c.in_ok-given.ensures.count c.in_ok-given.ensures.calm in
    reading-long _ _ _ _ _ _ _ _ _ _ so_far (c.if-is_past_limit.ensures.past refl)

pub take-requires-clause-few : goal.take-requires-clause-few
take-requires-clause-few g c = omega (arith, taken-few _ _ g.T.LineTaker.count _ _ _ _ _ _ _ _ g.met.T.LineTaker.counted c.reading.invariant.0, c.reading.invariant.1)

pub take-requires-in-reading-clause-few : goal.take-requires-in-reading-clause-few
take-requires-in-reading-clause-few g c = omega (arith, taken-few _ _ g.T.LineTaker.count _ _ _ _ _ _ _ _ g.met.T.LineTaker.counted c.reading.invariant.0, c.reading.invariant.1)

pub returns-in-None-clause-read : goal.returns-in-None-clause-read
returns-in-None-clause-read g c =
    let gave = c.in_ok-given.ensures.ok in
    let so_far = reading-more _ _ _ _ _ _ _ _ _ _ _ _ _ _ _ _ c.reading.invariant.0 gave c.in_ok-given.ensures.count c.in_ok-given.ensures.calm in
    let takes = rw c.in-None.is at c.in_ok-take.ensures.ok in
    reading-taken _ _ _ _ _ _ _ _ _ _ _ so_far (c.if-is_past_limit.ensures.within refl) (gave.end (omega arith) (omega (arith, c.reading.invariant.1)))
    (subst (TakesMore _ g.T.LineTaker.took c.reading.taker c.take.new.taker) c.held.ensures takes)

pub returns-in-Some-clause-read : goal.returns-in-Some-clause-read
returns-in-Some-clause-read g c =
    let gave = c.in_ok-given.ensures.ok in
    let so_far = reading-more _ _ _ _ _ _ _ _ _ _ _ _ _ _ _ _ c.reading.invariant.0 gave c.in_ok-given.ensures.count c.in_ok-given.ensures.calm in
    let bad = rw c.in-Some.is at c.in_ok-take.ensures.ok in
    let named = rw c.in-Some.is at c.in_ok-take.ensures.named in
    reading-refused _ _ g.T.LineTaker.count _ _ _ _ _ _ _ _ _ g.met.T.LineTaker.counted g.met.T.LineTaker.good so_far (c.if-is_past_limit.ensures.within refl)
    (gave.end (omega arith) (omega (arith, c.reading.invariant.1)))
    (subst (λ (l : List ℕ). IsFirstBadBehind (g.T.LineTaker.count c.reading.taker) (lines_of l) c.in-Some.fault) c.held.ensures bad) named

pub returns-in_err-take-2-clause-gave : goal.returns-in_err-take-2-clause-gave
returns-in_err-take-2-clause-gave g c =
    let so_far = reading-more _ _ _ _ _ _ _ _ _ _ _ _ _ _ _ _ c.reading.invariant.0 c.in_ok-given.ensures.ok c.in_ok-given.ensures.count c.in_ok-given.ensures.calm in
    on_err-anyhow _ (reading-gave _ _ _ _ _ _ _ _ _ _ _ so_far (c.if-is_past_limit.ensures.within refl) (Keeps-refl _))

pub returns-in_err-read_out-in-Some-2-clause-gave : goal.returns-in_err-read_out-in-Some-2-clause-gave
returns-in_err-read_out-in-Some-2-clause-gave g c =
    let so_far = reading-more _ _ _ _ _ _ _ _ _ _ _ _ _ _ _ _ c.reading.invariant.0 c.in_ok-given.ensures.ok c.in_ok-given.ensures.count c.in_ok-given.ensures.calm in
    on_err-anyhow _ (reading-gave-more _ _ _ _ _ _ _ _ _ _ _ so_far (c.if-is_past_limit.ensures.within refl) c.in_err-read_out-in-Some-2.ensures.gave)

pub returns-then-is_past_limit-2-clause-read : goal.returns-then-is_past_limit-2-clause-read
returns-then-is_past_limit-2-clause-read g c =
    let so_far = reading-more _ _ _ _ _ _ _ _ _ _ _ _ _ _ _ _ c.reading.invariant.0 c.in_ok-given.ensures.ok c.in_ok-given.ensures.count c.in_ok-given.ensures.calm in
    reading-long-behind _ _ _ _ _ _ _ _ _ _ _ _ so_far c.in_ok-read_out-in-Some-2.ensures.ok (c.if-is_past_limit-2.ensures.past refl)

pub returns-in-Some-2-clause-read : goal.returns-in-Some-2-clause-read
returns-in-Some-2-clause-read g c =
    let so_far = reading-more _ _ _ _ _ _ _ _ _ _ _ _ _ _ _ _ c.reading.invariant.0 c.in_ok-given.ensures.ok c.in_ok-given.ensures.count c.in_ok-given.ensures.calm in
    let bad = rw c.in-Some-2.is at c.in_ok-take-2.ensures.ok in
    let named = rw c.in-Some-2.is at c.in_ok-take-2.ensures.named in
    let len : ℕ = c.whole_len-len.result in
    reading-refused-behind _ _ g.T.LineTaker.count _ _ _ _ _ _ _ _ _ _ len _ g.met.T.LineTaker.counted g.met.T.LineTaker.good so_far c.in_ok-read_out-in-Some-2.ensures.ok (c.if-is_past_limit-2.ensures.within refl)
    (subst (λ (l : List ℕ). AreWholeLines (take len l)) c.held-in-reading.ensures c.whole_len-len.ensures.whole)
    (subst (λ (l : List ℕ). IsFirstBadBehind (g.T.LineTaker.count c.reading.taker) (lines_of (take len l)) c.in-Some-2.fault) c.held-in-reading-2.ensures bad) named

pub reading-preserved : goal.reading-preserved
reading-preserved g c =
    let so_far = reading-more _ _ _ _ _ _ _ _ _ _ _ _ _ _ _ _ c.reading.invariant.0 c.in_ok-given.ensures.ok c.in_ok-given.ensures.count c.in_ok-given.ensures.calm in
    let takes = rw c.in-None-2.is at c.in_ok-take-2.ensures.ok in
    let len : ℕ = c.whole_len-len.result in (
      reading-passes _ _ _ _ _ _ _ _ _ _ _ _ _ len so_far
          (subst (λ (l : List ℕ). TakesMore _ g.T.LineTaker.took c.reading.taker c.take-in-reading.new.taker (take len l)) c.held-in-reading-2.ensures takes)
          (subst (λ (l : List ℕ). AreWholeLines (take len l)) c.held-in-reading.ensures c.whole_len-len.ensures.whole)
          c.pass.ensures.held c.pass.ensures.count,
      omega (arith, c.pass.ensures.count, c.if-is_past_limit.ensures.within refl),
    )
