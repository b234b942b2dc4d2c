use Rattle.std.proofs.Common.{◌≡◌, ◌≤◌, drop, length, length-drop, Some, sym, ◌∙◌, ap, arith, inl, inr}
use Rattle.std.specs.List.{slice_get}
use Rattle.std.proofs.lemmas.Bool.Decides.{eqb_tells}
use Rattle.face_data.specs.Summaries.{Summary}
use Rattle.face_data.specs.View.{summary_of}
use Rattle.summary_tree.specs.Store.{leaf_in}
use Rattle.summary_tree.proofs.Starts.{rest_of}
use Rattle.summary_tree.proofs.start.put_leaves.Goals as goal

pub loop-face-init : goal.loop-face-init
loop-face-init c = record {
  rest = c.into_iter-face-iterator.ensures.into_iter_gives.0;
  leaves = λ n less. absurd (omega arith);
  places = omega (arith, c.in_ok-reserve_slots.ensures.ok, c.len.ensures);
}

pub put_leaf-requires-clause-place : goal.put_leaf-requires-clause-place
put_leaf-requires-clause-place c =
    let r = rest_of c.args.leaves.items c.loop-face.number (c.in-Some.face, c.in-Some.loops) c.next.new.self.rest.items (sym c.loop-face.invariant.rest ∙ c.in-Some.ensures.steps.0) in
    omega (arith, r.place, c.loop-face.invariant.places)

pub loop-face-preserved : goal.loop-face-preserved
loop-face-preserved c =
    let r = rest_of c.args.leaves.items c.loop-face.number (c.in-Some.face, c.in-Some.loops) c.next.new.self.rest.items (sym c.loop-face.invariant.rest ∙ c.in-Some.ensures.steps.0) in
    let leaf_at = leaf_in c.put_leaf.new.store.faces c.put_leaf.new.store.tables.items in
    let leaf_is : Some (summary_of c.view.result, c.in-Some.loops) ≡ Some (c.in-Some.face, c.in-Some.loops) = ap (λ (face : Summary). Some (face, c.in-Some.loops)) c.view.ensures.summary in
    record {
      rest = sym r.later;
      leaves = λ n less. elim (eqb_tells n c.loop-face.number) [
        | inl w ↦ ap leaf_at w.1 ∙ (c.in_ok-put_leaf.ensures.leaf ∙ (leaf_is ∙ (sym r.here ∙ ap (slice_get c.args.leaves.items) (sym w.1))))
        | inr w ↦ c.put_leaf.ensures.others n w.1 ∙ c.loop-face.invariant.leaves n (omega (arith, less, w.1))
      ];
      places = omega (arith, c.loop-face.invariant.places, c.put_leaf.ensures.places);
    }

pub returns : goal.returns
returns c =
    let many : length (drop c.loop-face.number c.args.leaves.items) ≡ 0 = ap length (sym c.loop-face.invariant.rest) ∙ omega (arith, c.loop-face.face-iterator.rest.ok, c.in-None.ensures.steps.0) in
    let all : length c.args.leaves.items ≤ c.loop-face.number = omega (arith, many, length-drop c.loop-face.number c.args.leaves.items) in
    record { leaves = λ n less. c.loop-face.invariant.leaves n (omega (arith, less, all)); places = c.loop-face.invariant.places }
