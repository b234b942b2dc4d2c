use Rattle.std.proofs.Common.{[], ◌∷◌, ◌∙◌, ap, sym, nat_le}
use Rattle.knit_base.specs.declared.rule.Rule.TheVariants.{SliderHolds}
use Rattle.face_data.specs.Conditions.{size_of, broken_unless}
use Rattle.carriage_model.specs.Rules.{slider_broken_on}
use Rattle.slider_rules.proofs.Sliders.{slider-unmet}
use Rattle.slider_rules.proofs.ask.Goals as goal

pub returns-clause-broken : goal.returns-clause-broken
returns-clause-broken c s t first read =
    ap (λ m. slider_broken_on m t) (sym c.forming_needle.ensures ∙ c.in-Some.is)
    ∙ slider-unmet c.in-Some.n t
    ∙ ap (λ m. broken_unless (nat_le (size_of (m ∷ []) t) 0) (record { rule = SliderHolds; at = 2 })) (sym c.own_slider.ensures)
    ∙ sym (c.in_ok-ask.ensures.unmet s t first read)
