use Rattle.std.proofs.Common.{ℕ, arith, length-drop}
use Rattle.std.proofs.lemmas.List.{length-take}
use Rattle.knit_ports.proofs.FileWindows.{gave-behind}
use Rattle.knit_ports.proofs.window.read_behind.Goals as goal

pub returns-clause-ok : goal.returns-clause-ok
returns-clause-ok g c =
    gave-behind c.read.result _ _ c.args.bytes.now.items c.deref_mut.result.now c.read.new.piece _ _ c.args.end c.args.room c.args.bytes.now.len c.deref_mut.ensures.value c.deref_mut.ensures.len c.requires
    (omega (arith, c.read.auto.piece, c.requires, c.deref_mut.ensures.len, length-take {A = ℕ}, length-drop {A = ℕ})) c.read.ensures.bound c.read.ensures.bytes
