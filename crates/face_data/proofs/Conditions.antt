-- Rules that are broken where a condition isn't met.
use Rattle.std.proofs.Common.{◌≡◌, ℕ, Bool, true, false, not, List, [], ◌∷◌, ◌++◌, Option, None, Some, refl, sym, ap, ◌∙◌}
use Rattle.knit_base.specs.declared.rule.Reason.{Reason}
use Rattle.knit_base.specs.declared.rule.Rule.{Rule}
use Rattle.knit_base.specs.Reasons.{broken_if, or_else}
use Rattle.carriage_model.specs.State.{State}
use Rattle.face_data.specs.declared.face.Cond.{Cond}
use Rattle.face_data.specs.Conditions.{broken_unless, first_unmet, ask_of, holds}

-- a rule that is broken where the condition fails
pub broken-unless : (met : Bool) (rule : Rule) (at : ℕ) → broken_if (not met) rule at ≡ broken_unless met (record { rule = rule; at = at })
broken-unless true rule at = refl
broken-unless false rule at = refl

-- three reasons, one after the other
pub or_else-assoc : (x y z : Option Reason) → or_else (or_else x y) z ≡ or_else x (or_else y z)
or_else-assoc None y z = refl
or_else-assoc (Some reason) y z = refl

-- the first condition of two lists that isn't met
pub first_unmet-append : (cs ds : List (Reason × Cond)) (s : State) → first_unmet (cs ++ ds) s ≡ or_else (first_unmet cs s) (first_unmet ds s)
first_unmet-append [] ds s = refl
first_unmet-append (c ∷ cs) ds s =
    let here = broken_unless (holds (ask_of [] c.1) s) c.0 in
    ap (or_else here) (first_unmet-append cs ds s) ∙ sym (or_else-assoc here (first_unmet cs s) (first_unmet ds s))
