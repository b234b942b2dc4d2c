-- Conditions on last needles among those that are kept.
use Rattle.std.proofs.Common.{◌≡◌, ℕ, ℤ, Bool, true, false, List, [], ◌∷◌, map, refl, ap, ◌∙◌}
use Rattle.std.specs.Prelude.{nat_eq, ◌&&◌, ◌||◌}
use Rattle.std.specs.List.{list_any}
use Rattle.std.specs.Ordering.{int_eq}
use Rattle.knit_base.specs.declared.needle.Needle.{Needle}
use Rattle.knit_base.specs.declared.yarns.CarrierNo.{CarrierNo}
use Rattle.face_data.specs.declared.bearing.Bearing.TheVariants.{Implied}
use Rattle.face_data.specs.declared.face.Check.{Check}
use Rattle.face_data.specs.declared.face.Cond.{Cond}
use Rattle.face_data.specs.declared.face.Cond.TheVariants.{RackIs, CarrierIn, CarrierOut, HookFree, HookIs, HookLacks, SizeAtMost, LastNear}
use Rattle.face_data.specs.Answers.{ConditionAnswer}
use Rattle.face_data.specs.Answers.ConditionAnswer.{asks}
use Rattle.face_data.specs.Bearings.{bearing, if_so}
use Rattle.face_data.specs.Composition.{from_bearing, answer_of_kept}
use Rattle.face_data.specs.Conditions.{ask_of}
use Rattle.face_data.specs.Conditions.Ask.{last_near}
use Rattle.face_data.specs.View.{asked_of_check}
use Rattle.summary_compose.specs.Known.{asks_near}

either_implies : (a b : Bool) (rest : ConditionAnswer) → from_bearing (if_so a Implied) (from_bearing (if_so b Implied) rest) ≡ from_bearing (if_so (a || b) Implied) rest
either_implies true b rest = refl
either_implies false b rest = refl

one_near : (names : List Needle) (cond : Cond) (c : CarrierNo) (at : ℤ) (float : ℕ) (b : Bool) (rest : ConditionAnswer) →
    from_bearing (bearing (ask_of names cond) (last_near c at float)) (from_bearing (if_so b Implied) rest) ≡ from_bearing (if_so (asks_near cond c at float || b) Implied) rest
unfolding bearing
one_near names (LastNear d n f) c at float b rest = either_implies (nat_eq d.0 c.0 && (int_eq n at && nat_eq f float)) b rest
one_near names (RackIs q) c at float b rest = refl
one_near names (CarrierIn d) c at float b rest = refl
one_near names (CarrierOut d) c at float b rest = refl
one_near names HookFree c at float b rest = refl
one_near names (HookIs set) c at float b rest = refl
one_near names (HookLacks d) c at float b rest = refl
one_near names (SizeAtMost p most) c at float b rest = refl

-- what is kept settles such a condition exactly where it is kept itself
pub settled_near : (names : List Needle) (cs : List Check) (c : CarrierNo) (at : ℤ) (float : ℕ) →
    answer_of_kept (map (asked_of_check names) cs) (last_near c at float) ≡ from_bearing (if_so (list_any (λ (k : Check). asks_near k.cond c at float) cs) Implied) (asks (last_near c at float))
unfolding answer_of_kept
settled_near names [] c at float = refl
settled_near names (k ∷ ks) c at float =
    ap (from_bearing (bearing (ask_of names k.cond) (last_near c at float))) (settled_near names ks c at float)
    ∙ one_near names k.cond c at float (list_any (λ (k : Check). asks_near k.cond c at float) ks) (asks (last_near c at float))
