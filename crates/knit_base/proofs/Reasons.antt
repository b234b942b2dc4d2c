-- Reasons, one after the other.
use Rattle.std.proofs.Common.{◌≡◌, Option, None, Some, refl}
use Rattle.knit_base.specs.declared.rule.Reason.{Reason}
use Rattle.knit_base.specs.Reasons.{or_else}

-- nothing follows
pub or_else-none : (o : Option Reason) → or_else o None ≡ o
or_else-none None = refl
or_else-none (Some reason) = refl
