use Rattle.std.proofs.Common.{refl}
use Rattle.std.proofs.lemmas.List.{get_or-replicate}
use Rattle.script_reader.proofs.listener.Listener.new.Goals as goal

pub returns : goal.returns
returns c = record { counts = λ session below. get_or-replicate 64 session 0 0 below; state = (refl, refl) }
