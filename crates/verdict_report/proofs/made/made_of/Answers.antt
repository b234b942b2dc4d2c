use Rattle.std.proofs.Common.{◌≡◌, ◌++◌, ap, arith, codes, ◌∙◌}
use Rattle.std.proofs.lemmas.Grind.{common_steps}
use Rattle.carriage_model.specs.Verdict.{brief_of}
use Rattle.verdict_report.specs.MadeText.{sizes_text}
use Rattle.verdict_report.specs.PassesText.{counts_text}
use Rattle.verdict_report.specs.VerdictText.{brief_text}
use Rattle.knit_base.proofs.Chain.{after_three}
use Rattle.verdict_report.proofs.made.made_of.Goals as goal

pub returns : goal.returns
returns c =
    let first : c.append_sizes.new.out.items ≡ sizes_text c.args.lines c.args.blocks = grind (arith, common_steps) in
    after_three c.append_sizes.new.out.items c.append_brief.new.out.items c.extend_from_slice.new.self.items c.append_counts.new.out.items
    (brief_text (brief_of c.args.verdict.now)) (codes "\n") (counts_text c.args.counts.passes c.args.counts.operations c.args.counts.windows)
    c.in_ok-append_brief.ensures (grind (arith, common_steps)) (grind (arith, common_steps))
    ∙ ap (λ t. t ++ (brief_text (brief_of c.args.verdict.now) ++ (codes "\n" ++ counts_text c.args.counts.passes c.args.counts.operations c.args.counts.windows))) first
