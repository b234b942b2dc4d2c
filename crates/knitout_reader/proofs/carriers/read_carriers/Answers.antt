use Rattle.std.proofs.Common.{arith, sym, ◌∙◌}
use Rattle.knitout_reader.proofs.CarrierLists.{gathered-more}
use Rattle.knitout_reader.proofs.carriers.read_carriers.Goals as goal

pub is_in_set-requires : goal.is_in_set-requires
is_in_set-requires c = omega (arith, c.in-Some-find_bytes.ensures.carrier, c.in-Some-find_bytes.ensures.few)

pub push-requires : goal.push-requires
push-requires c = omega (arith, c.in-Some-find_bytes.ensures.carrier, c.in-Some-find_bytes.ensures.few)

pub loop-name-preserved : goal.loop-name-preserved
loop-name-preserved c =
    gathered-more _ _ _ _ _ _ _ _ _ _ _ c.loop-name.invariant
    (record { split = c.in-Some.ensures.split; shorter = c.in-Some.ensures.shorter; suffix = c.in-Some.ensures.suffix })
    c.in-Some-find_bytes.ensures.found c.in-Some-find_bytes.ensures.carrier
    (omega (arith, c.in-Some-find_bytes.ensures.carrier, c.in-Some-find_bytes.ensures.few))
    (sym c.is_in_set.ensures ∙ c.if-is_in_set.false) c.in_ok-push.ensures.ok
