use Rattle.std.proofs.Common.{arith, rules}
use Rattle.knit_ports.proofs.FileWindows.{out-more}
use Rattle.knit_ports.proofs.window.Window.read_out.Goals as goal

pub invariant_of-self : goal.invariant_of-self
invariant_of-self g c = let so_far = c.passing.invariant.0 in (omega (arith, c.passing.invariant.1), so_far.some, omega (arith, c.passing.invariant.1), so_far.within)

pub passing-preserved : goal.passing-preserved
passing-preserved g c =
    (out-more _ _ _ _ _ _ _ _ _ _ _ _ _ _ c.passing.invariant.0 c.in_ok-given.ensures.ok (omega (arith, c.min-room.ensures)) (omega (arith, c.passing-test.true)) (search rules) c.in_ok-given.ensures.calm, c.passing.invariant.1)
