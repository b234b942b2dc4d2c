use Rattle.std.proofs.Common.{◌≡◌, take}
use Rattle.knit_maker.specs.Made.{file_of}
use Rattle.knit_maker.proofs.text.text_of.Given as goal

abbrev pub invariant-loop-i : goal.invariant-loop-i
invariant-loop-i l = l.text.items ≡ file_of (take l.i l.lines)
