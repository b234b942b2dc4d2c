use Rattle.std.proofs.Common.{◌∙◌, List, ℕ, length, drop, ap, arith}
use Rattle.std.proofs.lemmas.List.{length-take}
use Rattle.knit_ports.specs.Windows.{WindowView}
use Rattle.knit_ports.proofs.FileWindows.{window_front_dropped}
use Rattle.knit_ports.proofs.window.Window.pass.Goals as goal

pub returns-clause-held : goal.returns-clause-held
returns-clause-held c =
    let bytes : List ℕ = c.self.inside.bytes.items in
    let len : ℕ = c.args.len in
    let end : ℕ = c.self.inside.end in
    window_front_dropped bytes c.as_mut_slice.result.now c.copy_within.new.self len end c.self.inside.bytes.len c.as_mut_slice.ensures.value c.as_mut_slice.ensures.len c.copy_within.ensures.after
    (omega (arith, c.requires, ap (λ (v : WindowView). length v.held) c.self.view_is, length-take end bytes)) c.self.invariant.0
    ∙ ap (λ (v : WindowView). drop len v.held) c.self.view_is
