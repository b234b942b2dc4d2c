-- What is said of operations that were grouped.
use Rattle.std.specs.Prelude.{◌≡◌, ℕ, List, length}
use Rattle.pass_grouping.specs.declared.certificate.Window.{Window}
use Rattle.pass_grouping.specs.declared.growing.Counts.{Counts}
use Rattle.pass_grouping.specs.declared.growing.ToldPasses.{ToldPasses}
use Rattle.pass_grouping.specs.declared.operation.PassOp.{PassOp}
use Rattle.pass_grouping.specs.Facts.{pass_facts}
use Rattle.pass_grouping.specs.Groupings.{IsFewest, IsCertificate, between_starts}

-- there are so many operations, the fewest passes that carry them out are so many, and so many windows show it
pub record AreOperationCounts (ops : List PassOp) (counts : Counts) : Type 0 where
  pub starts : List ℕ
  pub windows : List Window
  pub fewest : IsFewest ops starts
  pub certificate : IsCertificate ops starts windows
  pub between : windows ≡ between_starts starts
  pub operations_counted : counts.operations ≡ length ops
  pub passes_counted : counts.passes ≡ length starts
  pub windows_counted : counts.windows ≡ length windows

-- there are so many operations, and each of the fewest passes that carry them out is told, from one start to the next
pub record AreTold (ops : List PassOp) (passes : ToldPasses) : Type 0 where
  pub starts : List ℕ
  pub windows : List Window
  pub fewest : IsFewest ops starts
  pub certificate : IsCertificate ops starts windows
  pub between : windows ≡ between_starts starts
  pub operations_counted : passes.operations ≡ length ops
  pub facts_told : passes.facts ≡ pass_facts ops starts
