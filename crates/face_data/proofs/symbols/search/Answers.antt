use Rattle.std.proofs.Common.{◌+◌, ◌-◌, ◌/◌, ℕ, sym, ◌∙◌, arith}
use Rattle.face_data.proofs.Places.{less_at, greater_at}
use Rattle.face_data.proofs.symbols.search.Goals as goal

pub loop-low-preserved-in-Less : goal.loop-low-preserved-in-Less
loop-low-preserved-in-Less c =
    let middle : ℕ = c.loop-low.low + (c.loop-low.high - c.loop-low.low) / 2 in
    record {
      ordered = omega arith;
      within = omega arith;
      before = less_at c.args.held.now middle c.index-held-middle.result c.args.n c.requires (omega arith) (sym c.needle_order.ensures ∙ c.in-Less.is);
      behind = c.loop-low.invariant.behind;
    }

pub loop-low-preserved : goal.loop-low-preserved
loop-low-preserved c =
    let middle : ℕ = c.loop-low.low + (c.loop-low.high - c.loop-low.low) / 2 in
    record {
      ordered = omega arith;
      within = omega arith;
      before = c.loop-low.invariant.before;
      behind = greater_at c.args.held.now middle c.index-held-middle.result c.args.n c.requires (omega arith) (sym c.needle_order.ensures ∙ c.in-Greater.is);
    }
