use Rattle.std.proofs.Common.{append_assoc, ap, ◌∙◌, ◌∷◌, [], arith, length}
use Rattle.std.specs.Vec.Iter.{into_iter_items}
use Rattle.check_workers.proofs.Lots.{one_more_prepared}
use Rattle.check_workers.proofs.prepare.prepare_in_turn.Goals as goal

pub loop-text-preserved : goal.loop-text-preserved
loop-text-preserved g c =
    let at = c.loop-text in
    let steps = c.in-Some.ensures.steps.0 in
    record {
      all = append_assoc at.yielded (c.in-Some.text ∷ []) (into_iter_items c.next.new.self) ∙ rw (← steps) at.invariant.all;
      left = let was = at.invariant.left in let gone = c.in-Some.ensures.steps.1 in let short = ap length steps in omega arith;
      so_far = rw c.in_ok-push-in-Ok.ensures.items (one_more_prepared c.args.setting.now at.yielded c.in-Some.text at.blocks.items c.in-Ok.block at.invariant.so_far c.in-Ok.ensures.text c.in-Ok.ensures.prepared);
    }
