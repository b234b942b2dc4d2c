use Rattle.std.proofs.Common.{◌∙◌, ◌++◌, [], ◌∷◌, cond, ap, sym, arith}
use Rattle.std.proofs.lemmas.List.FromFn.{filter_of_map_range_with_len_more}
use Rattle.knit_base.specs.Yarns.{contains_carrier}
use Rattle.verdict_report.specs.Carriers.{carrier}
use Rattle.verdict_report.proofs.carriers.carriers_of.Goals as goal

pub carriers-preserved : goal.carriers-preserved
carriers-preserved c =
    c.in_ok-push_if_in.ensures
    ∙ ap (λ cs. cs ++ cond (contains_carrier c.args.set (carrier c.carriers.number)) (carrier c.carriers.number ∷ []) []) c.carriers.invariant
    ∙ sym (filter_of_map_range_with_len_more (contains_carrier c.args.set) carrier 0 c.carriers.number c.carriers.number (omega arith))
