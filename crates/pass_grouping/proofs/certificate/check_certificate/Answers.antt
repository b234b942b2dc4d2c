use Rattle.std.proofs.Common.{◌≡◌, length, ap, refl, sym, ◌∙◌, arith}
use Rattle.std.proofs.lemmas.Bool.{eqb-true}
use Rattle.pass_grouping.proofs.Groupings.{certificate-fewest, certificate_tests_show, no_starts, no_windows}
use Rattle.pass_grouping.proofs.certificate.check_certificate.Goals as goal

pub returns-then-is_empty-clause-no_operation : goal.returns-then-is_empty-clause-no_operation
returns-then-is_empty-clause-no_operation c none =
    let empty : length c.as_slice-ops.result.now ≡ 0 = ap length c.as_slice-ops.ensures.items ∙ none in (
      λ _. (no_starts _ _ empty (c.is_grouping.ensures.0 c.if-not-is_grouping.false), no_windows _ _ empty (c.are_windows.ensures.0 c.if-not-are_windows.false).0),
      λ _. refl,
    )

pub returns-then-is_empty-clause-fewest : goal.returns-then-is_empty-clause-fewest
returns-then-is_empty-clause-fewest c _ =
    let none : length c.as_slice-ops.result.now ≡ 0 = eqb-true _ _ (sym c.is_empty.ensures ∙ c.if-is_empty.true) in
    certificate-fewest _ _ _
    (certificate_tests_show _ _ _ c.args.windows.now c.as_slice-ops.ensures.items (c.is_grouping.ensures.0 c.if-not-is_grouping.false) (c.are_windows.ensures.0 c.if-not-are_windows.false)
    (λ some. absurd (omega arith)))

pub returns-clause-fewest : goal.returns-clause-fewest
returns-clause-fewest c counts =
    certificate-fewest _ _ _
    (certificate_tests_show _ _ _ c.args.windows.now c.as_slice-ops.ensures.items (c.is_grouping.ensures.0 c.if-not-is_grouping.false) (c.are_windows.ensures.0 c.if-not-are_windows.false)
    (λ some. eqb-true _ _ counts))
