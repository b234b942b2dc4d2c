use Rattle.std.proofs.Common.{refl, subst, sym}
use Rattle.script_reader.specs.Hearing.{heard}
use Rattle.script_reader.specs.Listener.{IsState}
use Rattle.script_reader.specs.declared.listener.state.State.{State}
use Rattle.script_reader.proofs.TextsHeard.{hears_on}
use Rattle.script_reader.proofs.listener.Listener.hear.Goals as goal

pub returns : goal.returns
returns c = record {
  heard = λ h hears.
      let told = c.line_heard-moved.ensures h hears.counts (subst (λ (st : State). IsState st h) (sym c.replace-state.ensures.value) hears.state) in
      (hears_on _ c.line_heard-moved.result h c.args.number (heard h c.args.number c.args.line.now) told (c.count.ensures h.adds hears.counts) refl, told.orders);
}
