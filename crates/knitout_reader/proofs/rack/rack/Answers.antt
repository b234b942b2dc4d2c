use Rattle.std.proofs.Common.{codes, [], refl, inl, inr}
use Rattle.knitout_reader.proofs.Decimals.{rack-found, minus-first, plus-first, sign-absent}
use Rattle.knitout_reader.proofs.rack.rack.Goals as goal

pub returns-in-Some : goal.returns-in-Some
returns-in-Some c = rack-found _ (codes "-") _ _ _ c.in-Some.ensures refl (minus-first _ _ c.in-Some.ensures) c.unsigned.ensures

pub returns-in-Some-after : goal.returns-in-Some-after
returns-in-Some-after c =
    rack-found _ (codes "+") _ _ _ c.in-Some-after.ensures (inr refl) (plus-first _ _ c.in-Some-after.ensures) c.unsigned-in-Some-after.ensures

pub returns : goal.returns
returns c = rack-found _ [] _ _ _ refl (inl refl) (sign-absent _ c.in_default.ensures c.in_default-after.ensures) c.unsigned-2.ensures
