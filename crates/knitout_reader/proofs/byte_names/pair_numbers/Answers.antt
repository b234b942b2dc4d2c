use Rattle.std.proofs.Common.{refl}
use Rattle.std.proofs.lemmas.List.{get_or-replicate}
use Rattle.knitout_reader.proofs.byte_names.pair_numbers.Goals as goal

pub loop-pair-init : goal.loop-pair-init
loop-pair-init c = (refl, λ pair some below. absurd (some (get_or-replicate 100 pair 255 0 below)))
