use Rattle.std.proofs.Common.{arith, sym, subst}
use Rattle.std.proofs.lemmas.Bool.{leb-true, le-leb}
use Rattle.tally_tree.proofs.MetRooms.{all_met, most_below}
use Rattle.tally_tree.specs.Rooms.{AreTalliesReserved}
use Rattle.tally_tree.proofs.spares.Spares.meets.Goals as goal

pub returns-then-len : goal.returns-then-len
returns-then-len c = (
  λ yes. subst (λ s. AreTalliesReserved s c.args.need.now) c.self.view_is (all_met _ c.args.need.now (omega (arith, c.len.ensures, c.len-2.ensures, c.if-len.true)) (omega (arith, leb-true _ _ yes, c.most.ensures))),
  λ m. le-leb _ _ (omega (arith, most_below c.self.inside.room c.args.need.now (subst (λ s. AreTalliesReserved s c.args.need.now) (sym c.self.view_is) m).large, c.most.ensures)),
)
