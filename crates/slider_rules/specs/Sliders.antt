-- What is asked of sliders.
use Rattle.std.specs.Prelude.{[], ◌∷◌, Option}
use Rattle.std.specs.Option.{option_map}
use Rattle.knit_base.specs.declared.instr.Instr.{Instr}
use Rattle.knit_base.specs.declared.needle.Needle.{Needle}
use Rattle.knit_base.specs.declared.rule.Rule.TheVariants.{SliderHolds}
use Rattle.knit_base.specs.Needle.{own_slider}
use Rattle.knit_base.specs.Instr.{forming_needle}
use Rattle.face_data.specs.Sizes.{SizeRule}

-- the own slider of the needle holds nothing
abbrev pub bare_slider : Needle → SizeRule
bare_slider n = record { reason = record { rule = SliderHolds; at = 2 }; needles = own_slider n ∷ []; most = 0 }

-- what the instruction asks of a slider
abbrev pub slider_rule : Instr → Option SizeRule
slider_rule instr = option_map bare_slider (forming_needle instr)
