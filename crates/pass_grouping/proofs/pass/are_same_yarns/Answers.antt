use Rattle.std.proofs.Common.{sym, ◌∙◌}
use Rattle.pass_grouping.proofs.Yarns.{yarns-decides}
use Rattle.pass_grouping.proofs.pass.are_same_yarns.Goals as goal

pub returns-in_default : goal.returns-in_default
returns-in_default c =
    let decides = yarns-decides c.args.a.now c.args.b.now in
    (λ passes. decides.0 (sym c.eq-in_default.ensures ∙ passes), λ same. c.eq-in_default.ensures ∙ decides.1 same)
