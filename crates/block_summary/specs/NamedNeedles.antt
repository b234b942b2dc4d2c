-- The needles that lines name.
use Rattle.std.specs.Prelude.{List, [], ◌∷◌, ◌++◌}
use Rattle.std.specs.Option.{option_map, option_to_list}
use Rattle.knit_base.specs.declared.instr.Read.{Read}
use Rattle.knit_base.specs.declared.instr.Read.TheVariants as read
use Rattle.knit_base.specs.declared.needle.Needle.{Needle}
use Rattle.knit_base.specs.Instr.{forming_needle, needles_of}
use Rattle.knit_base.specs.Needle.{own_slider}

-- those that a line names, and the own slider of one on which it forms a loop
unfoldable pub line_needles : Read → List Needle
line_needles (read.Instr i) = needles_of i ++ option_to_list (option_map own_slider (forming_needle i))
line_needles r = []

-- all that the lines name so
unfoldable pub needles_named : List Read → List Needle
needles_named [] = []
needles_named (r ∷ rs) = line_needles r ++ needles_named rs
