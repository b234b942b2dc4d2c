use Rattle.std.proofs.Common.{◌++◌, ap, arith, codes, ◌∙◌}
use Rattle.std.proofs.lemmas.Grind.{common_steps}
use Rattle.knit_base.specs.Spelling.{labelled_number}
use Rattle.knit_base.proofs.Chain.{after_four}
use Rattle.verdict_report.proofs.passes.append_counts.Goals as goal

pub returns : goal.returns
returns c =
    after_four c.args.out.now.items c.append_labelled.new.out.items c.append_labelled-2.new.out.items c.append_labelled-3.new.out.items c.extend_from_slice.new.self.items
    (labelled_number (codes "passes ") c.args.passes) (labelled_number (codes " operations ") c.args.operations) (labelled_number (codes " windows ") c.args.windows) (codes " checked\n")
    (c.in_ok-append_labelled.ensures.ok ∙ ap (λ n. c.args.out.now.items ++ labelled_number (codes "passes ") n) c.from.ensures)
    (c.in_ok-append_labelled-2.ensures.ok ∙ ap (λ n. c.append_labelled.new.out.items ++ labelled_number (codes " operations ") n) c.from-2.ensures)
    (c.in_ok-append_labelled-3.ensures.ok ∙ ap (λ n. c.append_labelled-2.new.out.items ++ labelled_number (codes " windows ") n) c.from-3.ensures)
    (grind (arith, common_steps))
