use Rattle.std.proofs.Common.{◌∙◌, ℕ, List, All, map, ap, sym, subst, arith}
use Rattle.std.specs.List.{slice_range}
use Rattle.knit_base.specs.declared.cut.Cut.{Cut}
use Rattle.knit_base.specs.declared.lines.Span.{Span}
use Rattle.knit_base.specs.Held.{bytes_in, spans_in}
use Rattle.knit_base.specs.Lines.{AreSomeSpans, IsSpanWithin, behind_first}
use Rattle.knit_base.proofs.Copied.{have_none}
use Rattle.knit_base.proofs.Shares.{whole_spans}
use Rattle.knit_base.proofs.held.Held.into_shared.Goals as goal

pub invariant_of-result : goal.invariant_of-result
invariant_of-result c =
    let bytes : List ℕ = c.in-Own.cut.bytes.items in
    let spans : List Span = c.in-Own.cut.spans.items in
    let within : All (IsSpanWithin (bytes_in c.args.self)) spans = subst (All (IsSpanWithin (bytes_in c.args.self))) (ap spans_in c.in-Own.is) c.requires.within in
    let there : All (IsSpanWithin bytes) spans = subst (λ (b : List ℕ). All (IsSpanWithin b) spans) (ap bytes_in c.in-Own.is) within in
    let part : AreSomeSpans spans 0 c.len-end.result 0 = record {
      ordered = omega arith;
      inside = omega (arith, c.len-end.ensures);
      long = have_none bytes spans 0 c.len-end.result there;
    } in
    record { part = subst (λ (some : List Span). AreSomeSpans some 0 c.len-end.result 0) (sym (ap (λ (cut : Cut). cut.spans.items) c.in_ok-new-in-Own.ensures.ok)) part }

pub returns-in_ok-new-in-Own-clause-spans : goal.returns-in_ok-new-in-Own-clause-spans
returns-in_ok-new-in-Own-clause-spans c =
    ap (λ (cut : Cut). map (behind_first 0) (slice_range cut.spans.items 0 c.len-end.result)) c.in_ok-new-in-Own.ensures.ok
    ∙ whole_spans c.in-Own.cut.spans.items c.len-end.result (omega (arith, c.len-end.ensures))
    ∙ sym (ap spans_in c.in-Own.is)
