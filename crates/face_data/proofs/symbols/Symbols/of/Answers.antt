use Rattle.std.proofs.Common.{sym}
use Rattle.face_data.proofs.Places.{found_at, missed_at}
use Rattle.face_data.proofs.symbols.Symbols.of.Goals as goal

pub returns-in-Ok : goal.returns-in-Ok
returns-in-Ok c =
    found_at c.self.inside.held.items c.deref.result.now c.args.self.now c.args.n c.in-Ok.i c.index.result.now c.self.invariant c.deref.ensures.value (sym c.self.view_is) c.in-Ok.ensures.found c.index.ensures

pub returns-in-Err : goal.returns-in-Err
returns-in-Err c = missed_at c.self.inside.held.items c.deref.result.now c.args.self.now c.args.n c.in-Err.field-0 c.deref.ensures.value (sym c.self.view_is) c.in-Err.ensures.gap
