use Rattle.std.proofs.Common.{◌≡◌, ◌∷◌, [], List, length, refl, ap, sym, subst, ◌∙◌, append_assoc, append-nil, arith}
use Rattle.std.proofs.lemmas.Grind.{common_steps}
use Rattle.std.specs.Vec.Iter.{into_iter_items}
use Rattle.edit_book.specs.declared.reply.Again.{Again}
use Rattle.edit_book.specs.Books.{BookView, document}
use Rattle.edit_book.specs.HeaderTrees.{AreLeavesTaken, IsLeafTaken}
use Rattle.edit_book.proofs.HandedOver.{taken_first}
use Rattle.edit_book.proofs.Openings.{nothing_left}
use Rattle.edit_book.proofs.Trees.{zip_count}
use Rattle.edit_book.proofs.book.Book.taken_leaves.Goals as goal

pub loop-item-init : goal.loop-item-init
loop-item-init c = record {
  all = refl;
  left = let gives = c.into_iter-item-iterator.ensures.into_iter_gives in grind (arith, common_steps);
  taken = taken_first _ c.len.result _ c.in_ok-taken.ensures (c.len.ensures ∙ ap (λ (w : BookView). length (document w).blocks) c.self.view_is);
}

pub take_leaf-requires : goal.take_leaf-requires
take_leaf-requires c = zip_count (IsLeafTaken c.loop-item.yielded) c.loop-item.taken.items _ c.loop-item.invariant.taken

pub loop-item-preserved : goal.loop-item-preserved
loop-item-preserved c =
    let at = c.loop-item in
    let steps = c.in-Some.ensures.steps.0 in
    record {
      all = append_assoc at.yielded (c.in-Some.item ∷ []) (into_iter_items c.next.new.self) ∙ rw (← steps) at.invariant.all;
      left = let was = at.invariant.left in let gone = c.in-Some.ensures.steps.1 in let short = ap length steps in omega arith;
      taken = c.take_leaf.ensures at.yielded at.invariant.taken;
    }

pub returns : goal.returns
returns c =
    let at = c.loop-item in
    let empty : into_iter_items at.item-iterator ≡ [] = nothing_left (into_iter_items at.item-iterator) (sym at.invariant.left ∙ c.in-None.ensures.steps.0) in
    let all : at.yielded ≡ c.args.again = sym (append-nil at.yielded) ∙ rw empty at at.invariant.all ∙ c.into_iter-item-iterator.ensures.into_iter_gives.0 ∙ c.into_vec-item-items.ensures.items in
    subst (λ (l : List Again). AreLeavesTaken l at.taken.items (document c.args.self.now).blocks) all at.invariant.taken
