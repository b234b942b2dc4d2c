use Rattle.std.proofs.Common.{ℕ, Some, ◌≡◌, ◌∙◌, ◌+◌, ◌≤◌, ap, sym, subst}
use Rattle.knit_base.specs.Lines.{HasNoLineEnd, without_return}
use Rattle.knit_ports.specs.declared.limit.TheConstants.{HEARD_LIMIT}
use Rattle.opening_reader.specs.Fronts.{IsOpeningLineTaken}
use Rattle.opening_reader.specs.Openings.{CanBeRead, fault_within, limit_behind, unreadable}
use Rattle.opening_reader.proofs.ReadLines.{kept-bad, kept-good, one-without}
use Rattle.opening_reader.proofs.TakenLines.{limit-is, limit-low}
use Rattle.opening_reader.proofs.front.take.Goals as goal

pub readable-requires : goal.readable-requires
readable-requires c = record {
  line = subst HasNoLineEnd (sym c.without_return.ensures) (one-without c.args.kept.now c.requires.one);
  limit = subst (λ (n : ℕ). n ≤ HEARD_LIMIT) (sym c.limit_for.ensures) (limit-low c.args.front.wanted);
}

pub returns-in-Ok : goal.returns-in-Ok
returns-in-Ok c = λ lines line holds kept.
    let limit : ℕ = c.limit_for.result in
    let low : limit ≤ HEARD_LIMIT = subst (λ (n : ℕ). n ≤ HEARD_LIMIT) (sym c.limit_for.ensures) (limit-low c.args.front.wanted) in
    let known : limit ≡ limit_behind lines = c.limit_for.ensures ∙ limit-is c.args.front lines c.args.text.now holds in
    let p = c.in-Ok.ensures in
    let read : without_return c.args.kept.now ≡ without_return line = kept-good limit line c.args.kept.now low kept (ap (fault_within limit) (sym c.without_return.ensures) ∙ p.0) in
    let same : c.in-Ok.line.now ≡ without_return line = p.1 ∙ c.without_return.ensures ∙ read in
    let good : CanBeRead (limit_behind lines) c.in-Ok.line.now = subst (λ (n : ℕ). CanBeRead n c.in-Ok.line.now) known (ap (fault_within limit) p.1 ∙ p.0) in
    subst (IsOpeningLineTaken c.take_readable.result c.take_readable.new.text lines) same (c.take_readable.ensures lines holds good)

pub returns-in-Err : goal.returns-in-Err
returns-in-Err c = λ lines line holds kept.
    let limit : ℕ = c.limit_for.result in
    let low : limit ≤ HEARD_LIMIT = subst (λ (n : ℕ). n ≤ HEARD_LIMIT) (sym c.limit_for.ensures) (limit-low c.args.front.wanted) in
    let known : limit ≡ limit_behind lines = c.limit_for.ensures ∙ limit-is c.args.front lines c.args.text.now holds in
    let bad : fault_within limit (without_return line) ≡ Some c.in-Err.cause = kept-bad limit line c.args.kept.now c.in-Err.cause low kept (ap (fault_within limit) (sym c.without_return.ensures) ∙ c.in-Err.ensures) in
    (ap (λ (n : ℕ). n + 1) holds.counted, unreadable c.in-Err.cause (subst (λ (n : ℕ). fault_within n (without_return line) ≡ Some c.in-Err.cause) known bad))
