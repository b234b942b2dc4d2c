-- The carriers that tokens name, and the two rules that such a list can break.
use Rattle.std.specs.Prelude.{ℕ, ◌+◌, Bool, nat_eq, List, [], ◌∷◌, ◌++◌, Option, None, Some, is_none, if◌then◌else◌}
use Rattle.std.specs.List.{filter_map, list_any}
use Rattle.knit_base.specs.declared.rule.Reason.{Reason}
use Rattle.knit_base.specs.declared.rule.Rule.TheVariants.{NoCarrier, CarrierTwice}
use Rattle.knit_base.specs.declared.yarns.CarrierNo.{CarrierNo}
use Rattle.knit_base.specs.Names.{carrier_of}
use Rattle.knit_base.specs.Reasons.{first_broken, or_else}

-- no carrier has this name
abbrev pub is_undeclared : List (List ℕ) → List ℕ → Bool
is_undeclared names token = is_none (carrier_of names token)

-- the first token that names no declared carrier, where the list begins at this token
abbrev pub no_carrier : List (List ℕ) → ℕ → List (List ℕ) → Option Reason
no_carrier names at tokens = first_broken (is_undeclared names) NoCarrier at tokens

-- the carriers that the tokens name
abbrev pub carriers_of : List (List ℕ) → List (List ℕ) → List CarrierNo
carriers_of names tokens = filter_map (carrier_of names) tokens

-- the carrier stands in the list
abbrev pub is_among : List CarrierNo → CarrierNo → Bool
is_among carriers c = list_any (λ d. nat_eq d.0 c.0) carriers

-- behind these carriers, the first of a list that is among what stands before it, where the list begins at this token
abbrev pub twice_behind : List CarrierNo → ℕ → List CarrierNo → Option Reason
twice_behind before at [] = None
twice_behind before at (c ∷ cs) =
    if is_among before c then Some (record { rule = CarrierTwice; at = at }) else twice_behind (before ++ c ∷ []) (at + 1) cs

-- the first carrier that stands earlier in the same list
abbrev pub carrier_twice : ℕ → List CarrierNo → Option Reason
carrier_twice at carriers = twice_behind [] at carriers

-- each token names a carrier, and none names one again. The first is tried over the whole list before the second.
abbrev pub carrier_rule : List (List ℕ) → ℕ → List (List ℕ) → Option Reason
carrier_rule names at tokens = or_else (no_carrier names at tokens) (carrier_twice at (carriers_of names tokens))
