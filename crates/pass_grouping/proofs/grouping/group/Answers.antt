use Rattle.std.proofs.Common.{List, subst}
use Rattle.pass_grouping.specs.declared.operation.PassOp.{PassOp}
use Rattle.pass_grouping.specs.Groupings.{IsCertificate, IsFewest}
use Rattle.pass_grouping.proofs.Groupings.{certificate-fewest}
use Rattle.pass_grouping.proofs.PartialGroupings.{grouped-next, grouped-end}
use Rattle.pass_grouping.proofs.grouping.group.Goals as goal

pub loop-behind-preserved : goal.loop-behind-preserved
loop-behind-preserved c =
    let end = c.pass_end-behind-in-loop-behind.ensures in (
      grouped-next _ _ _ _ _ _ _ _ c.loop-behind.invariant.0 (c.loop-behind.invariant.1 c.loop-behind-test.true) c.loop-behind-test.true c.in_ok-push-2.ensures.ok c.in_ok-push-3.ensures.ok end.some
          end.within end.pass,
      end.longest,
    )

pub returns-clause-fewest : goal.returns-clause-fewest
returns-clause-fewest c =
    subst (λ (ops : List PassOp). IsFewest ops c.loop-behind.starts) c.as_slice-items.ensures.items
    (certificate-fewest _ _ _ (grouped-end _ _ _ _ _ c.loop-behind.invariant.0 c.loop-behind-test.false))

pub returns-clause-certificate : goal.returns-clause-certificate
returns-clause-certificate c =
    subst (λ (ops : List PassOp). IsCertificate ops c.loop-behind.starts c.loop-behind.windows) c.as_slice-items.ensures.items
    (grouped-end _ _ _ _ _ c.loop-behind.invariant.0 c.loop-behind-test.false)
