use Rattle.std.proofs.Common.{◌≡◌, ◌+◌, ◌∙◌, ℕ, List, map, ap, sym, subst}
use Rattle.std.specs.List.{slice_range}
use Rattle.knit_base.specs.declared.cut.Cut.{Cut}
use Rattle.knit_base.specs.declared.lines.Span.{Span}
use Rattle.knit_base.specs.Lines.{AreSomeSpans, behind_first}
use Rattle.knit_base.proofs.Shares.{part_is, part_spans}
use Rattle.knit_base.proofs.cut.CutPart.range.Goals as goal

pub invariant_of-result : goal.invariant_of-result
invariant_of-result c =
    let a = c.args in
    let all : a.self.now.skipped + a.skipped ≡ c.in-Some.all_skipped = sym c.in-Some.ensures.1 in
    let same : a.self.now.cut.value.spans.items ≡ c.in_ok-try_clone.field-0.value.spans.items = ap (λ (cut : Cut). cut.spans.items) (sym c.in_ok-try_clone.ensures) in
    let part : AreSomeSpans c.in_ok-try_clone.field-0.value.spans.items (a.self.now.start + a.start) (a.self.now.start + a.end) c.in-Some.all_skipped =
    subst (λ (spans : List Span). AreSomeSpans spans (a.self.now.start + a.start) (a.self.now.start + a.end) c.in-Some.all_skipped) same
    (subst (AreSomeSpans a.self.now.cut.value.spans.items (a.self.now.start + a.start) (a.self.now.start + a.end)) all
    (part_is _ _ _ _ a.self.now.part a.start a.end a.skipped c.requires.ordered c.requires.inside c.requires.long)) in
    record { part = part }

pub returns-clause-spans : goal.returns-clause-spans
returns-clause-spans c =
    let a = c.args in
    ap (λ (cut : Cut). map (behind_first c.in-Some.all_skipped) (slice_range cut.spans.items (a.self.now.start + a.start) (a.self.now.start + a.end))) c.in_ok-try_clone.ensures
    ∙ ap (λ (n : ℕ). map (behind_first n) (slice_range a.self.now.cut.value.spans.items (a.self.now.start + a.start) (a.self.now.start + a.end))) c.in-Some.ensures.1
    ∙ part_spans _ _ _ _ a.self.now.part a.start a.end a.skipped c.requires.ordered c.requires.inside
