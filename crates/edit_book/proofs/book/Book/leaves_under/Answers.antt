use Rattle.std.proofs.Common.{◌≡◌, [], length, ap, sym, ◌∙◌, arith}
use Rattle.std.specs.Vec.Iter.{into_iter_items}
use Rattle.edit_book.proofs.HeaderTrees.{NextBlock, made_all, made_more, next_block, steps_so_far, taken_fits}
use Rattle.edit_book.proofs.Openings.{nothing_left}
use Rattle.edit_book.specs.Books.{document}
use Rattle.edit_book.proofs.book.Book.leaves_under.Given.{Over}
use Rattle.edit_book.proofs.book.Book.leaves_under.Goals as goal
use Rattle.edit_book.proofs.book.Book.leaves_under.Goals.{In-Some}

-- the block whose leaf is made
block_now : (g : Over) (c : In-Some g) → NextBlock c.args.setting.now (document c.args.self.now).blocks c.in-Some.leaf (into_iter_items c.next.new.self) c.loop-leaf.at
block_now g c = let at = c.loop-leaf in next_block c.args.setting.now _ c.in-Some.leaf _ _ _ at.at _ _ _ c.in-Some.ensures.steps.0 at.invariant.made

pub leaf_at-requires-clause-there : goal.leaf_at-requires-clause-there
leaf_at-requires-clause-there g c = (block_now g (goal.at.leaf_at-requires-clause-there g c).In-Some).within

pub leaf_at-requires-clause-taken : goal.leaf_at-requires-clause-taken
leaf_at-requires-clause-taken g c = taken_fits c.args.setting.now _ c.in-Some.leaf _ _ (block_now g (goal.at.leaf_at-requires-clause-taken g c).In-Some)

pub returns-in_err-leaf_at-clause-steps : goal.returns-in_err-leaf_at-clause-steps
returns-in_err-leaf_at-clause-steps g c =
    let at = c.loop-leaf in
    let n = block_now g (goal.at.returns-in_err-leaf_at-clause-steps g c).In-Some in
    steps_so_far c.args.setting.now _ c.in-Some.leaf _ _ n _ _ _ _ _ _ c.in-Some.ensures.steps.0 at.invariant.made (c.leaf_at.ensures.steps n.block n.there)

pub returns-in_err-push-clause-steps : goal.returns-in_err-push-clause-steps
returns-in_err-push-clause-steps g c =
    let at = c.loop-leaf in
    let n = block_now g (goal.at.returns-in_err-push-clause-steps g c).In-Some in
    steps_so_far c.args.setting.now _ c.in-Some.leaf _ _ n _ _ _ _ _ _ c.in-Some.ensures.steps.0 at.invariant.made (c.leaf_at.ensures.steps n.block n.there)

pub loop-leaf-preserved : goal.loop-leaf-preserved
loop-leaf-preserved g c =
    let at = c.loop-leaf in
    let steps = c.in-Some.ensures.steps in
    let n = block_now g (goal.at.loop-leaf-preserved g c).In-Some in
    record {
      left = let was = at.invariant.left in let gone = steps.1 in let short = ap length steps.0 in omega arith;
      made = made_more c.args.setting.now _ c.in-Some.leaf _ _ n _ _ _ _ _ _ steps.0 at.invariant.made (c.leaf_at.ensures.steps n.block n.there) c.in_ok-leaf_at.field-0 _ c.in_ok-push.ensures.items
          (c.in_ok-leaf_at.ensures.leaf n.block n.there);
    }

pub returns-clause-leaves : goal.returns-clause-leaves
returns-clause-leaves g c =
    let at = c.loop-leaf in
    let empty : into_iter_items at.leaf-iterator ≡ [] = nothing_left (into_iter_items at.leaf-iterator) (sym at.invariant.left ∙ c.in-None.ensures.steps.0) in
    (made_all c.args.setting.now _ _ _ _ _ _ _ empty at.invariant.made).0
