-- Which rule is broken, and at which token.
use Rattle.std.specs.Prelude.{ℕ, ◌+◌, Bool, List, Option, None, Some, position, if◌then◌else◌}
use Rattle.std.specs.Option.{option_map}
use Rattle.knit_base.specs.declared.rule.Rule.{Rule}
use Rattle.knit_base.specs.declared.rule.Reason.{Reason}

-- this rule is broken at this token, where the test says so
abbrev pub broken_if : Bool → Rule → ℕ → Option Reason
broken_if test rule at = if test then Some (record { rule = rule; at = at }) else None

-- the first item that fails the test, where the list begins at this token
abbrev pub first_broken : {A : Type 0} → (A → Bool) → Rule → ℕ → List A → Option Reason
first_broken fails rule at items = option_map (λ i. record { rule = rule; at = at + i }) (position fails items)

-- the first reason, or else the second
abbrev pub or_else : Option Reason → Option Reason → Option Reason
or_else None second = second
or_else (Some reason) second = Some reason
