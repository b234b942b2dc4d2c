use Rattle.std.proofs.Common.{refl}
use Rattle.std.proofs.lemmas.List.{get_or-replicate}
use Rattle.knitout_reader.proofs.byte_names.byte_numbers.Goals as goal

pub loop-byte-init : goal.loop-byte-init
loop-byte-init c = (refl, λ byte some below. absurd (some (get_or-replicate 256 byte 255 0 below)))
