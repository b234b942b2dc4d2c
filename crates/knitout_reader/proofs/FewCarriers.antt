-- What a line of few carriers says of the carriers behind its operands.
use Rattle.std.proofs.Common.{◌≡◌, ℕ, ◌<◌, ◌≤◌, ℤ, List, ◌∷◌, length, codes, refl, subst}
use Rattle.knit_base.specs.declared.needle.Bed.{Bed}
use Rattle.knit_base.specs.declared.needle.Dir.{Dir}
use Rattle.knitout_reader.specs.declared.words.CarrierOperation.{CarrierOperation}
use Rattle.knitout_reader.specs.declared.words.CarrierOperation.TheVariants as carrier_operation
use Rattle.knitout_reader.specs.declared.words.LoopOperation.{LoopOperation}
use Rattle.knitout_reader.specs.declared.words.LoopOperation.TheVariants as loop_operation
use Rattle.knitout_reader.specs.Operations.{carrier_word, loop_word}
use Rattle.knitout_reader.specs.Shapes.{NameFewCarriers, IsDivided, IsFormed, CarryInShape, CarryOutShape, HookInShape, HookOutShape, ReleaseHookShape, KnitShape, TuckShape, MissShape, SplitShape}

-- the carriers of an operation on carriers alone are few
pub few_at_carriers : (which : CarrierOperation) (carriers : List (List ℕ)) → 0 < length carriers → NameFewCarriers (carrier_word which ∷ carriers) → length carriers ≤ 4
few_at_carriers carrier_operation.In carriers some few = few (CarryInShape carriers) (record { spelled = refl; some = some })
few_at_carriers carrier_operation.Out carriers some few = few (CarryOutShape carriers) (record { spelled = refl; some = some })
few_at_carriers carrier_operation.HookIn carriers some few = few (HookInShape carriers) (record { spelled = refl; some = some })
few_at_carriers carrier_operation.HookOut carriers some few = few (HookOutShape carriers) (record { spelled = refl; some = some })
few_at_carriers carrier_operation.ReleaseHook carriers some few = few (ReleaseHookShape carriers) (record { spelled = refl; some = some })

-- those behind the needle of `knit`, `tuck` or `miss`
pub few_at_loop : (which : LoopOperation) (tokens : List (List ℕ)) (dir : Dir) (bed : Bed) (at : ℤ) (carriers : List (List ℕ))
    → IsFormed (loop_word which) (loop_word which ∷ tokens) dir bed at carriers → NameFewCarriers (loop_word which ∷ tokens) → length carriers ≤ 4
few_at_loop loop_operation.Knit tokens dir bed at carriers formed few = few (KnitShape dir bed at carriers) formed
few_at_loop loop_operation.Tuck tokens dir bed at carriers formed few = few (TuckShape dir bed at carriers) formed
few_at_loop loop_operation.Miss tokens dir bed at carriers formed few = few (MissShape dir bed at carriers) formed

-- those behind the needles of `split`
pub few_at_split : (tokens : List (List ℕ)) (dir : Dir) (bed : Bed) (at : ℤ) (bed2 : Bed) (at2 : ℤ) (carriers : List (List ℕ))
    → IsDivided (codes "split") (codes "split" ∷ tokens) dir bed at bed2 at2 carriers → NameFewCarriers (codes "split" ∷ tokens) → length carriers ≤ 4
few_at_split tokens dir bed at bed2 at2 carriers divided few = few (SplitShape dir bed at bed2 at2 carriers) divided

-- equal tokens name the same carriers
pub few_along : (tokens others : List (List ℕ)) → tokens ≡ others → NameFewCarriers tokens → NameFewCarriers others
few_along tokens others same few = subst NameFewCarriers same few
