-- Lists of carriers, compared pair by pair.
use Rattle.std.proofs.Common.{◌≡◌, true, List, ap}
use Rattle.std.proofs.lemmas.Bool.{eqb-true}
use Rattle.std.proofs.Common.{eq-eqb}
use lib.Pointwise.{pointwise, pointwise_decides}
use Rattle.knit_base.specs.declared.yarns.CarrierNo.{CarrierNo}
use Rattle.knit_base.specs.contracts.yarns.CarrierNoPartialEq.TheImpl as carrier_eq

same_carrier : (a b : CarrierNo) → (carrier_eq.eq-value).it a b ≡ true → a ≡ b
same_carrier a b e = λ i. record { 0 = eqb-true a.0 b.0 e i }

own_carrier : (a b : CarrierNo) → a ≡ b → (carrier_eq.eq-value).it a b ≡ true
own_carrier a b e = eq-eqb a.0 b.0 (ap (λ (c : CarrierNo). c.0) e)

pub yarns-decides : (xs ys : List CarrierNo) → (pointwise ((carrier_eq.eq-value).it) xs ys ≡ true → xs ≡ ys) × (xs ≡ ys → pointwise ((carrier_eq.eq-value).it) xs ys ≡ true)
yarns-decides = pointwise_decides (λ a b. (same_carrier a b, own_carrier a b))
