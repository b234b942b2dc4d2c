use Rattle.std.proofs.Common.{ap, ◌∙◌, cond, List, ℕ}
use Rattle.knit_base.specs.Needle.{same_needle}
use Rattle.carriage_model.specs.Beds.{loops_at}
use Rattle.carriage_model.proofs.beds.Beds.give_room.Goals as goal

pub returns : goal.returns
returns c = record {
  same = c.put.ensures.same;
  stacks_are = λ q. c.put.ensures.stacks_are q ∙ ap (λ (l : List ℕ). cond (same_needle c.args.n q) l (loops_at c.args.self.now q)) c.clear.ensures;
}
