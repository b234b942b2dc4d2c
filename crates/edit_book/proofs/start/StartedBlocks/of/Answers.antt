use Rattle.std.proofs.Common.{◌≡◌, ◌∷◌, [], ◌++◌, List, length, ap, sym, subst, ◌∙◌, append_assoc, append-nil, arith}
use Rattle.std.specs.Vec.Iter.{into_iter_items}
use Rattle.block_summary.specs.declared.prepared.Prepared.{Prepared}
use Rattle.edit_book.specs.Opened.{HasKept}
use Rattle.edit_book.proofs.Openings.{kept_more, nothing_left, room_left}
use Rattle.edit_book.proofs.start.StartedBlocks.of.Goals as goal

pub add-requires : goal.add-requires
add-requires c =
    let at = c.loop-block in
    room_left at.yielded _ _ c.in-Some.block at.kept (ap (λ (l : List Prepared). at.yielded ++ l) (sym c.in-Some.ensures.steps.0) ∙ at.invariant.all ∙ c.into_iter-block-iterator.ensures.into_iter_gives.0)
    at.invariant.kept c.requires

pub loop-block-preserved : goal.loop-block-preserved
loop-block-preserved c =
    let at = c.loop-block in
    let steps = c.in-Some.ensures.steps.0 in
    record {
      all = append_assoc at.yielded (c.in-Some.block ∷ []) (into_iter_items c.next.new.self) ∙ rw (← steps) at.invariant.all;
      left = let was = at.invariant.left in let gone = c.in-Some.ensures.steps.1 in let short = ap length steps in omega arith;
      kept = kept_more at.yielded c.in-Some.block at.kept _ at.invariant.kept c.in_ok-add.ensures;
    }

pub returns : goal.returns
returns c =
    let at = c.loop-block in
    let empty : into_iter_items at.block-iterator ≡ [] = nothing_left (into_iter_items at.block-iterator) (sym at.invariant.left ∙ c.in-None.ensures.steps.0) in
    let all : at.yielded ≡ c.args.blocks.items = sym (append-nil at.yielded) ∙ rw empty at at.invariant.all ∙ c.into_iter-block-iterator.ensures.into_iter_gives.0 in
    subst (λ (l : List Prepared). HasKept l at.kept) all at.invariant.kept
