-- The rule on sliders is a condition on the size of one needle.
use Rattle.std.proofs.Common.{◌≡◌, ℕ, not, nat_lt, nat_le, [], ◌∷◌, length, ap, ◌∙◌, arith}
use Rattle.std.proofs.lemmas.List.Sums.{sum_by-cons}
use Rattle.knit_base.specs.declared.needle.Needle.{Needle}
use Rattle.knit_base.specs.declared.rule.Rule.TheVariants.{SliderHolds}
use Rattle.knit_base.specs.Needle.{own_slider}
use Rattle.knit_base.specs.Reasons.{broken_if}
use Rattle.carriage_model.specs.Rules.{slider_holds}
use Rattle.carriage_model.specs.State.{State}
use Rattle.face_data.specs.Conditions.{size_of, broken_unless}
use Rattle.face_data.proofs.Conditions.{broken-unless}

some_test : (size total : ℕ) → total ≡ size → nat_lt 0 size ≡ not (nat_le total 0)
some_test size total is = grind arith

-- a slider that holds a loop holds more than none
pub slider-unmet : (n : Needle) (t : State) → slider_holds t n ≡ broken_unless (nat_le (size_of (own_slider n ∷ []) t) 0) (record { rule = SliderHolds; at = 2 })
slider-unmet n t =
    let size : size_of (own_slider n ∷ []) t ≡ length (t.stacks (own_slider n)) =
    sum_by-cons (λ m. length (t.stacks m)) (own_slider n) [] ∙ omega arith in
    ap (λ b. broken_if b SliderHolds 2) (some_test (length (t.stacks (own_slider n))) (size_of (own_slider n ∷ []) t) size)
    ∙ broken-unless (nat_le (size_of (own_slider n ∷ []) t) 0) SliderHolds 2
