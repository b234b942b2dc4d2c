use Rattle.std.proofs.Common.{◌≡◌, ◌∙◌, ℕ, ◌++◌, ap, codes}
use Rattle.knit_base.specs.Names.{spaced_names}
use Rattle.knit_base.specs.Spelling.{labelled_number}
use Rattle.knit_base.proofs.Chain.{after_three}
use Rattle.edit_journal.proofs.entry_line.append_head.Goals as goal

pub returns : goal.returns
returns c =
    let seen : c.append_labelled.new.out.items ≡ c.args.out.now.items ++ labelled_number (codes " put head seen ") c.args.seen =
    c.in_ok-append_labelled.ensures.ok ∙ ap (λ (n : ℕ). c.args.out.now.items ++ labelled_number (codes " put head seen ") n) c.from.ensures in
    after_three c.args.out.now.items c.append_labelled.new.out.items c.extend_from_slice.new.self.items c.append_names.new.out.items
    (labelled_number (codes " put head seen ") c.args.seen) (codes " carriers") (spaced_names c.args.declared.now)
    seen c.in_ok-extend_from_slice.ensures.items c.in_ok-append_names.ensures
