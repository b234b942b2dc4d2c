use Rattle.std.proofs.Common.{◌++◌, ap, arith, codes, ◌∙◌}
use Rattle.std.proofs.lemmas.Grind.{common_steps}
use Rattle.knit_base.specs.Spelling.{labelled_number}
use Rattle.knit_base.proofs.Chain.{after_three}
use Rattle.verdict_report.proofs.made.append_sizes.Goals as goal

pub returns : goal.returns
returns c =
    after_three c.args.out.now.items c.append_labelled.new.out.items c.append_labelled-2.new.out.items c.extend_from_slice.new.self.items
    (labelled_number (codes "maker lines ") c.args.lines) (labelled_number (codes " blocks ") c.args.blocks) (codes "\n")
    (c.in_ok-append_labelled.ensures.ok ∙ ap (λ n. c.args.out.now.items ++ labelled_number (codes "maker lines ") n) c.from.ensures)
    (c.in_ok-append_labelled-2.ensures.ok ∙ ap (λ n. c.append_labelled.new.out.items ++ labelled_number (codes " blocks ") n) c.from-2.ensures)
    (grind (arith, common_steps))
