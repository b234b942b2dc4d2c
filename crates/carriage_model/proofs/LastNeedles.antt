-- Last needles as the program keeps them, by the carriers' numbers.
use Rattle.std.proofs.Common.{◌≡◌, ℕ, ◌+◌, ◌<◌, Bool, true, false, ◌||◌, List, [], ◌∷◌, length, drop, get_or, Option, None, Some, refl, sym, ap, ◌∙◌, subst, arith}
use Rattle.std.specs.Prelude.{ℤ, nat_eq, if◌then◌else◌, slice_index_or}
use Rattle.std.specs.Prelude.{not, position, cond, is_some}
use Rattle.std.specs.List.{list_any, position_from}
use Rattle.std.specs.Option.{option_map}
use Rattle.std.proofs.lemmas.Iterator.Adapters.{position_from-zero}
use Rattle.std.proofs.lemmas.List.Elements.{All-head, All-tail}
use Rattle.knit_base.specs.Yarns.{AreCarriers, IsCarrier}
use Rattle.knit_base.specs.declared.rule.Reason.{Reason}
use Rattle.knit_base.specs.declared.rule.Rule.TheVariants.{FloatTooLong}
use Rattle.carriage_model.specs.declared.machine.Machine.{Machine}
use Rattle.carriage_model.specs.Machine.{Represents, last_in}
use Rattle.carriage_model.specs.Rules.{floats_far}
use Rattle.std.proofs.lemmas.Bool.{eqb-true, eqb-false}
use Rattle.std.proofs.lemmas.List.{drop_more, get_or-set_same, get_or-set_other}
use Rattle.std.proofs.Math.ListN.{set}
use Rattle.knit_base.specs.declared.yarns.CarrierNo.{CarrierNo}
use Rattle.carriage_model.specs.State.{State, is_near, same_carrier, with_lasts}

put_at : (lasts : List (Option ℤ)) (d c : CarrierNo) (at : Option ℤ) (b rest : Bool) → nat_eq c.0 d.0 ≡ b → d.0 < length lasts
    → (if rest then at else get_or (set lasts d.0 at) c.0 None) ≡ (if b || rest then at else get_or lasts c.0 None)
put_at lasts d c at true true same within = refl
put_at lasts d c at true false same within =
    ap (λ (i : ℕ). get_or (set lasts d.0 at) i None) (eqb-true c.0 d.0 same) ∙ get_or-set_same lasts d.0 at None within
put_at lasts d c at false true other within = refl
put_at lasts d c at false false other within = get_or-set_other lasts d.0 c.0 at None (eqb-false c.0 d.0 other)

-- one more carrier of a list has got its last needle
pub put-more : (cs : List CarrierNo) (i : ℕ) (d c : CarrierNo) (lasts : List (Option ℤ)) (at : Option ℤ) → i < length cs → (get_or cs i d).0 < length lasts
    → with_lasts (λ e. slice_index_or (set lasts (get_or cs i d).0 at) e.0 None) (drop (i + 1) cs) at c ≡ with_lasts (λ e. slice_index_or lasts e.0 None) (drop i cs) at c
put-more cs i d c lasts at within fits =
    put_at lasts (get_or cs i d) c at (nat_eq c.0 (get_or cs i d).0) (list_any (same_carrier c) (drop (i + 1) cs)) refl fits
    ∙ ap (λ (xs : List CarrierNo). with_lasts (λ e. slice_index_or lasts e.0 None) xs at c) (sym (drop_more cs i d within))

same_from : (p q : CarrierNo → Bool) (i : ℕ) (cs : List CarrierNo) → ((c : CarrierNo) → IsCarrier c → p c ≡ q c) → AreCarriers cs → position_from p i cs ≡ position_from q i cs
same_from p q i [] same fit = refl
same_from p q i (c ∷ cs) same fit =
    ap (λ b. cond b (Some i) (position_from p (i + 1) cs)) (same c (All-head IsCarrier c cs fit))
    ∙ ap (cond (q c) (Some i)) (same_from p q (i + 1) cs same (All-tail IsCarrier c cs fit))

same_position : (p q : CarrierNo → Bool) (cs : List CarrierNo) → ((c : CarrierNo) → IsCarrier c → p c ≡ q c) → AreCarriers cs → position p cs ≡ position q cs
same_position p q cs same fit = position_from-zero p cs ∙ same_from p q 0 cs same fit ∙ sym (position_from-zero q cs)

-- the float that is too long is found among the last needles that the machine keeps
pub far-known : (machine : Machine) (s : State) (limit : Option ℕ) (float : ℕ) (number : ℤ) (at : ℕ) (cs yarns : List CarrierNo) (found : Option ℕ) → machine.keeps_lasts ≡ is_some limit
    → limit ≡ Some float → cs ≡ yarns → AreCarriers yarns → Represents machine s → found ≡ position (λ c. not (is_near float (last_in machine c) number)) cs
    → option_map (λ i. record { rule = FloatTooLong; at = at + i }) found ≡ floats_far limit s number at yarns
far-known machine s limit float number at cs yarns found keeps is same fit here told =
    let kept : machine.keeps_lasts ≡ true = keeps ∙ ap is_some is in
    let reason : Option ℕ → Option Reason = option_map (λ i. record { rule = FloatTooLong; at = at + i }) in
    ap reason (told ∙ ap (position (λ c. not (is_near float (last_in machine c) number))) same
    ∙ same_position (λ c. not (is_near float (last_in machine c) number)) (λ c. not (is_near float (s.lasts c) number)) yarns
    (λ c fits. ap (λ o. not (is_near float o number)) (here.lasts kept c fits)) fit)
    ∙ sym (ap (λ o. floats_far o s number at yarns) is)
