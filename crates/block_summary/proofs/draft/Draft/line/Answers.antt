use Rattle.std.proofs.Common.{sym, ap, ◌∙◌, inl, inr}
use Rattle.face_data.specs.Composition.{composed}
use Rattle.block_summary.specs.DraftKnowledge.{stopped_at}
use Rattle.block_summary.specs.LineEnds.{loop_of_line}
use Rattle.block_summary.specs.LineSummaries.{line_summary}
use Rattle.block_summary.proofs.LineSteps.{broken_stops, nothing_goes}
use Rattle.block_summary.proofs.draft.Draft.line.Goals as goal

pub returns-in-Broken : goal.returns-in-Broken
returns-in-Broken c =
    let profile = c.args.profile.now in
    let old = c.args.self.now in
    ap (λ read. composed old (line_summary profile read)) c.in-Broken.is
    ∙ broken_stops profile old c.in-Broken.reason c.stop.ensures.through
    ∙ (λ i. stopped_at (sym c.stop.ensures.fault i) (sym c.stop.ensures.line i))

pub returns-in-Blank : goal.returns-in-Blank
returns-in-Blank c =
    let profile = c.args.profile.now in
    let old = c.args.self.now in
    let goes = c.pass.ensures.line ∙ nothing_goes old c.pass.ensures.through in
    elim c.in-Blank.is [
      | inl blank ↦ (goes ∙ ap (λ read. composed old (line_summary profile read)) (sym blank), ap (λ read. loop_of_line read old.changes) (sym blank))
      | inr comment ↦ (goes ∙ ap (λ read. composed old (line_summary profile read)) (sym comment), ap (λ read. loop_of_line read old.changes) (sym comment))
    ]
