use Rattle.std.proofs.Common.{◌≡◌, ◌-◌, ◌∙◌, ℕ, List, All, drop, map, ap, sym, subst}
use Rattle.std.specs.List.{slice_range}
use Rattle.std.proofs.lemmas.List.Elements.{All-drop, All-take}
use Rattle.knit_base.specs.declared.lines.Span.{Span}
use Rattle.knit_base.specs.Held.{bytes_in, bytes_of_part, spans_in, spans_of_part}
use Rattle.knit_base.specs.Lines.{AreCopied, IsSpanWithin, behind_first}
use Rattle.knit_base.proofs.Copied.{kept_bytes}
use Rattle.knit_base.proofs.held.Held.range.Goals as goal

pub returns-in_ok-range-in-Shared : goal.returns-in_ok-range-in-Shared
returns-in_ok-range-in-Shared c =
    let a = c.args in
    let part = c.in-Shared.part in
    let bytes : bytes_in a.self.now ≡ bytes_of_part part = ap bytes_in c.in-Shared.is in
    let spans : spans_in a.self.now ≡ spans_of_part part = ap spans_in c.in-Shared.is in
    let wanted : List Span = slice_range (spans_in a.self.now) a.start a.end in
    let within : All (IsSpanWithin (bytes_in a.self.now)) wanted = All-take (IsSpanWithin (bytes_in a.self.now)) (a.end - a.start) (drop a.start (spans_in a.self.now)) (All-drop (IsSpanWithin (bytes_in a.self.now)) a.start (spans_in a.self.now) c.requires.within) in
    subst (λ (b : List ℕ). AreCopied (bytes_in a.self.now) a.skipped wanted b (spans_of_part c.in_ok-range-in-Shared.field-0)) (bytes ∙ sym c.in_ok-range-in-Shared.ensures.bytes)
    (kept_bytes (bytes_in a.self.now) a.skipped wanted (spans_of_part c.in_ok-range-in-Shared.field-0) within c.requires.long
    (c.in_ok-range-in-Shared.ensures.spans ∙ sym (ap (λ (ss : List Span). map (behind_first a.skipped) (slice_range ss a.start a.end)) spans)))
