use Rattle.std.proofs.Common.{◌+◌, ◌-◌, ◌/◌, ℕ, map, sym, ◌∙◌, arith}
use Rattle.std.proofs.lemmas.List.{length-map}
use Rattle.face_data.specs.View.{changed_of}
use Rattle.face_data.proofs.FaceChanges.{above_at, below_at, held_at, own_at}
use Rattle.face_data.proofs.read_through.segs_on.Goals as goal

pub loop-low-preserved-in-Less : goal.loop-low-preserved-in-Less
loop-low-preserved-in-Less c =
    let middle : ℕ = c.loop-low.low + (c.loop-low.high - c.loop-low.low) / 2 in
    record {
      ordered = omega arith;
      within = omega arith;
      before = below_at c.args.face.now.segs.now c.args.face.now.changes.now middle _ c.args.n c.requires.order (omega arith) (sym c.needle_order.ensures ∙ c.in-Less.is);
      behind = c.loop-low.invariant.behind;
    }

pub returns-in-Equal-clause-held : goal.returns-in-Equal-clause-held
returns-in-Equal-clause-held c =
    let middle : ℕ = c.loop-low.low + (c.loop-low.high - c.loop-low.low) / 2 in
    c.segs_at.ensures ∙ held_at c.args.face.now.segs.now c.args.face.now.changes.now middle _ c.args.n c.requires.order (omega arith) (sym c.needle_order.ensures ∙ c.in-Equal.is)

pub loop-low-preserved : goal.loop-low-preserved
loop-low-preserved c =
    let middle : ℕ = c.loop-low.low + (c.loop-low.high - c.loop-low.low) / 2 in
    record {
      ordered = omega arith;
      within = omega arith;
      before = c.loop-low.invariant.before;
      behind = above_at c.args.face.now.segs.now c.args.face.now.changes.now middle _ c.args.n c.requires.order (omega arith) (sym c.needle_order.ensures ∙ c.in-Greater.is);
    }

pub returns-clause-own : goal.returns-clause-own
returns-clause-own c =
    own_at (map (changed_of c.args.face.now.segs.now) c.args.face.now.changes.now) c.args.n c.loop-low.low c.loop-low.high c.loop-low.invariant.ordered (omega (arith, c.loop-low-test.false))
    (omega (arith, c.loop-low.invariant.ordered, c.loop-low.invariant.within, length-map c.args.face.now.changes.now (changed_of c.args.face.now.segs.now))) c.loop-low.invariant.before c.loop-low.invariant.behind
