use Rattle.std.proofs.Common.{◌≡◌, ◌+◌, ℕ, List, [], ◌∷◌, ◌++◌, Some, None, ap, arith, length, length-append, rules, sym, subst, ◌∙◌}
use Rattle.std.specs.List.{slice_get}
use Rattle.edit_journal.specs.declared.edit.BlockAt.{BlockAt}
use Rattle.journal_file.proofs.FirstBlocks.{AreFirst, first_all, first_drawn, first_more, first_none, first_place}
use Rattle.journal_file.proofs.first.first_blocks.Goals as goal

pub loop-text-init : goal.loop-text-init
loop-text-init c =
    let none : c.new-blocks.result ≡ [] = search rules in
    subst (AreFirst c.args.book.now.opening.texts) (sym none) (first_none c.args.book.now.opening.texts)

pub push-requires : goal.push-requires
push-requires c =
    let there : slice_get c.args.book.now.opening.texts (length c.loop-text.blocks) ≡ Some c.in-Some.text.now = search rules in
    omega (arith, first_place c.args.book.now.opening.texts (length c.loop-text.blocks) c.in-Some.text.now there, first_drawn c.args.book.now.opening c.args.book.now.entries, c.ids-few.ensures.below_head)

pub loop-text-smaller : goal.loop-text-smaller
loop-text-smaller c =
    let there : slice_get c.args.book.now.opening.texts (length c.loop-text.blocks) ≡ Some c.in-Some.text.now = search rules in
    let next : BlockAt = record { block = c.len-block.result; stamp = 0; text = c.in_ok-text.text } in
    let longer : length c.push.new.self ≡ length c.loop-text.blocks + 1 = ap length c.in_ok-push.ensures.ok ∙ length-append c.loop-text.blocks (next ∷ []) in
    omega (arith, first_place c.args.book.now.opening.texts (length c.loop-text.blocks) c.in-Some.text.now there, longer)

pub loop-text-preserved : goal.loop-text-preserved
loop-text-preserved c =
    let texts : List (List (List ℕ)) = c.args.book.now.opening.texts in
    let there : slice_get texts (length c.loop-text.blocks) ≡ Some c.in_ok-text.text = search rules in
    let len : c.len-block.result ≡ length c.loop-text.blocks = search rules in
    subst (AreFirst texts) (sym c.in_ok-push.ensures.ok) (subst (λ (n : ℕ). AreFirst texts (c.loop-text.blocks ++ record { block = n; stamp = 0; text = c.in_ok-text.text } ∷ [])) (sym len) (first_more texts c.loop-text.blocks c.in_ok-text.text there c.loop-text.invariant))

pub returns : goal.returns
returns c =
    let none : slice_get c.args.book.now.opening.texts (length c.loop-text.blocks) ≡ None = search rules in
    first_all c.args.book.now.opening.texts c.loop-text.blocks none c.loop-text.invariant
