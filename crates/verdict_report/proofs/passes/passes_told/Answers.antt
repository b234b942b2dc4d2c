use Rattle.std.proofs.Common.{◌++◌, ap, ◌∙◌}
use Rattle.verdict_report.specs.PassesText.{told_text}
use Rattle.verdict_report.proofs.ToldLines.{told-same}
use Rattle.verdict_report.proofs.passes.passes_told.Goals as goal

pub returns : goal.returns
returns c = λ ops told.
    c.in_ok-append_told.ensures
    ∙ ap (λ start. start ++ told_text c.args.declared.now c.args.passes.now.operations c.args.passes.now.facts) c.in_ok-text.ensures.items
    ∙ told-same c.args.declared.now ops told.starts told.windows c.args.passes.now.operations c.args.passes.now.facts told.certificate told.between told.operations_counted told.facts_told
